-- LEASE is answered, whoever asks, where no row and no I lease is on the key and it has no value. After expiry that is: no row on the key
-- stays, its I lease has lapsed or it has none, and it has no value or a row on it goes, since with the row the value is dropped.
-- At the end, what the code reads of a lease and of a row.
use Rattle.std.specs.Prelude.{if◌then◌else◌}
use mathlib.Core.Path.{◌≡◌, refl, sym, ap, ap₂, ◌∙◌}
use mathlib.Core.Bool.{Bool, true, false, not, ◌&&◌, ◌||◌, and-false, and-true}
use mathlib.Core.List.{List, [], ◌∷◌, map}
use mathlib.Core.Option.{Option, none, some}
use Prim.Native.Nat.{ℕ}
use native.Mathlib.Omega.{arith}
use lib.Dec.{eqb}
use lib.ListN.{get_or, get_or-map}
use borrow.Author.Tests.{eq-eqb, ne_eqb}
use Rattle.lent.proofs.Choices.{and_yes}
use Rattle.machine.specs.Tables.{find, any, mem, is_none}
use Rattle.machine.specs.Decision.{decision, grants}
use Rattle.machine.specs.State.{Value, Lease, Key, blank, Row, no_row, row, State, free_row, on, of, of_on, session_of, row_of, cached, lease_on}
use Rattle.machine.specs.Expiry.{set_value, free_if_of, settle, lapsed_value, unlapsed, lapsed_lease, leave, finish, expire}
use Rattle.machine.specs.Sound.{sound, token_in}
use Rattle.machine.specs.Refusals.{decide, blocked, cached_sight, sight, would_lease}
use Rattle.machine.proofs.Views.{AfterSet, other, here, out, after-set, find_passes, any_place, on_row, settle_lease, any_mapped, any_same}
use Rattle.machine.proofs.Table.{free-grants, held_blocks}
use Rattle.layout.specs.Fields.{row_session}
use Rattle.layout.specs.Holds.{LeaseFits, RowFits}
use Rattle.layout.proofs.Records.{lease_none, row_none}
use Rattle.deadlines.specs.Deadlines.{due_slot}
use Rattle.refusals.specs.Left.{goes, stays_on}
use Rattle.refusals.proofs.Searches.{any_both, find_none}
use Rattle.refusals.proofs.Expired.{due, rows_expired, due_is}

-- ---- whom LEASE is answered

cached-none : (k : ℕ) (o : Option Value) → is_none (cached_sight k o) ≡ is_none o
cached-none k none = refl
cached-none k (some v) = refl

module _ (s : State) (n k : ℕ) where
  lease_blocked : any (on k) s.rows ≡ true → would_lease s n k ≡ false
  unfolding would_lease blocked decide
  lease_blocked h =
      let w = any_place (on k) no_row s.rows h in
      let r = on_row k (find (on k) no_row s.rows) (find_passes (on k) no_row s.rows w.0 refl w.1) in
      rw (r.3, held_blocks r.1) (and-false (is_none (sight s n k) && free_row (row_of s n k)))

  lease_free : any (on k) s.rows ≡ false → would_lease s n k ≡ is_none (lease_on s k) && is_none (cached s k)
  unfolding would_lease blocked decide sight
  lease_free h = rw (nobody, none_own, cached-none k (cached s k)) (go (is_none (cached s k)) (is_none (lease_on s k)))
    where
      nobody : find (on k) no_row s.rows ≡ no_row
      nobody = find_none (on k) (on k) no_row refl (λ r e. e) s.rows h

      none_own : row_of s n k ≡ no_row
      none_own = find_none (of_on n k) (on k) no_row refl (λ r e. (and_yes (of n r) (on k r) e).1) s.rows h

      go : (c t : Bool) → c && true && not (not (grants (decision (if t then 0 else 1) 0))) ≡ t && c
      go true true = rw (ap grants (free-grants 0 (omega arith)))
      go true false = rw (held_blocks 0)
      go false true = refl
      go false false = refl

-- ---- the key after expiry

module _ (k : ℕ) where
  value_dropped : (ks : List Key) (j : ℕ) → is_none (get_or (set_value ks j none) k blank).value ≡ eqb j k || is_none (get_or ks k blank).value
  value_dropped ks j = go (after-set ks j (record { value = none; lease = (get_or ks j blank).lease }) k blank)
    where
      go : AfterSet ks j (record { value = none; lease = (get_or ks j blank).lease }) k blank → is_none (get_or (set_value ks j none) k blank).value ≡ eqb j k || is_none (get_or ks k blank).value
      go (other p e) = rw (ne_eqb j k p) (ap (λ (x : Key). is_none x.value) e)
      go (here p e) = rw (eq-eqb j k p) (ap (λ (x : Key). is_none x.value) e)
      go (out p e f) = rw (eq-eqb j k p) (ap (λ (x : Key). is_none x.value) e)

  values_dropped : (ns : List ℕ) (rs : List Row) (ks : List Key)
      → is_none (get_or (settle ns lapsed_value rs ks) k blank).value ≡ any (λ r. on k r && mem (row_session r) ns) rs || is_none (get_or ks k blank).value
  values_dropped ns [] ks = refl
  values_dropped ns (no_row ∷ rs) ks = values_dropped ns rs ks
  values_dropped ns (row n j d u ∷ rs) ks = go (mem n ns) (values_dropped ns rs)
    where
      rest : Bool
      rest = any (λ r. on k r && mem (row_session r) ns) rs

      turn : (t a c : Bool) → a || (t || c) ≡ ((t && true) || a) || c
      turn true true c = refl
      turn true false c = refl
      turn false a c = refl

      skip : (t a c : Bool) → a || c ≡ ((t && false) || a) || c
      skip true a c = refl
      skip false a c = refl

      go : (t : Bool) → ((ks' : List Key) → is_none (get_or (settle ns lapsed_value rs ks') k blank).value ≡ any (λ r. on k r && mem (row_session r) ns) rs || is_none (get_or ks' k blank).value)
          → is_none (get_or (settle ns lapsed_value rs (if t then set_value ks j none else ks)) k blank).value ≡ ((eqb j k && t) || any (λ r. on k r && mem (row_session r) ns) rs) || is_none (get_or ks k blank).value
      go true f = f (set_value ks j none) ∙ rw (value_dropped ks j) (turn (eqb j k) (any (λ r. on k r && mem (row_session r) ns) rs) (is_none (get_or ks k blank).value))
      go false f = f ks ∙ skip (eqb j k) (any (λ r. on k r && mem (row_session r) ns) rs) (is_none (get_or ks k blank).value)

module _ (s : State) (ok : sound s ≡ true) (now k : ℕ) where
  on-expired : any (on k) (expire now s).rows ≡ any (stays_on now s k) s.rows
  on-expired = rw (rows_expired s now) (any_mapped (on k) (free_if_of (due s now)) (stays_on now s k) each s.rows)
    where
      each : (r : Row) → on k (free_if_of (due s now) r) ≡ stays_on now s k r
      each no_row = refl
      each (row n j d u) = rw (due_is s ok now n) (go (due_slot now (session_of s n)) (eqb j k))
        where
          go : (t b : Bool) → on k (if t then no_row else row n j d u) ≡ eqb j k && not t
          go true b = sym (and-false (eqb j k))
          go false b = sym (and-true (eqb j k))

  lease_expired : lease_on (expire now s) k ≡ unlapsed now (lease_on s k)
  unfolding expire finish leave
  lease_expired = settle_lease (due s now) lapsed_value k s.rows (map (lapsed_lease now) s.keys) ∙ ap (λ (x : Key). x.lease) (get_or-map (lapsed_lease now) s.keys k blank)

  value_expired : is_none (cached (expire now s) k) ≡ any (λ r. on k r && goes now s r) s.rows || is_none (cached s k)
  unfolding expire finish leave
  value_expired =
      values_dropped k (due s now) s.rows (map (lapsed_lease now) s.keys)
      ∙ ap₂ ◌||◌
      (any_same (λ r. on k r && mem (row_session r) (due s now)) (λ r. on k r && goes now s r) (λ r. ap (λ t. on k r && t) (due_is s ok now (row_session r))) s.rows)
      (ap (λ (x : Key). is_none x.value) (get_or-map (lapsed_lease now) s.keys k blank))

  -- ---- whom LEASE is answered after expiry

  module _ (n : ℕ) where
    pub lease_where_stays : any (stays_on now s k) s.rows ≡ true → would_lease (expire now s) n k ≡ false
    lease_where_stays h = lease_blocked (expire now s) n k (on-expired ∙ h)

    pub lease_where_none_stays : any (stays_on now s k) s.rows ≡ false → would_lease (expire now s) n k ≡ is_none (unlapsed now (lease_on s k)) && (any (on k) s.rows || is_none (cached s k))
    lease_where_none_stays h =
        lease_free (expire now s) n k (on-expired ∙ h)
        ∙ ap₂ ◌&&◌ (ap is_none lease_expired) (value_expired ∙ ap (λ (t : Bool). t || is_none (cached s k)) (any_both (on k) (goes now s) s.rows h))

-- ---- what is read of a lease and of a row

module _ (now : ℕ) where
  pub leaseless-none : (o : Option Lease) → LeaseFits o → token_in o ≡ 0 → is_none (unlapsed now o) ≡ true
  leaseless-none o f e = rw (lease_none o f e)

  pub stays_free : (s : State) (k : ℕ) (r : Row) → RowFits r → row_session r ≡ 0 → stays_on now s k r ≡ false
  stays_free s k r f e = rw (row_none r f e)
