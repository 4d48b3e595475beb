-- For how long a key is blocked, read from its lease and its rows. A row that is not on the key adds a deadline of 0, which changes no
-- latest deadline, so each row adds something, and a walk from the last row to the first makes the latest one.
use Rattle.std.specs.Prelude.{if◌then◌else◌}
use mathlib.Core.Path.{◌≡◌, refl, sym, ◌∙◌}
use mathlib.Core.Bool.{Bool, true, false}
use mathlib.Core.List.{List, ◌∷◌}
use mathlib.Core.Option.{Option, none, some}
use Prim.Native.Nat.{ℕ, suc, ◌-◌, ◌≤◌, ◌<◌, max}
use native.Mathlib.Omega.{arith}
use lib.Dec.{eqb}
use lib.ListN.{length, get_or, drop, drop_of_length-le}
use lib.Seq.{drop-cons}
use borrow.Author.Tests.{eq-eqb, ne_eqb}
use Rattle.machine.specs.State.{Lease, Row, no_row, row, State, session_of, lease_on}
use Rattle.machine.specs.Sound.{token_in}
use Rattle.machine.specs.Effects.{slot_end, later, latest, lease_end, less_now, wait}
use Rattle.layout.specs.Fields.{lease_until, row_session, row_key}
use Rattle.layout.specs.Holds.{LeaseFits, RowFits}
use Rattle.layout.proofs.Records.{lease_none, row_none}
use Rattle.waits.specs.Waits.{row_end}

-- ---- what a row adds

module _ (s : State) (k : ℕ) where
  pub row_end_free : (r : Row) → RowFits r → row_session r ≡ 0 → row_end s k r ≡ some 0
  row_end_free r f e = rw (row_none r f e)

  pub row_end_other : (r : Row) → (row_key r ≡ k → ⊥) → row_end s k r ≡ some 0
  row_end_other no_row e = refl
  row_end_other (row n j d u) e = rw (ne_eqb j k e)

  pub row_end_on : (r : Row) → (row_session r ≡ 0 → ⊥) → row_key r ≡ k → row_end s k r ≡ slot_end (session_of s (row_session r))
  row_end_on no_row z e = absurd (z refl)
  row_end_on (row n j d u) z e = rw (eq-eqb j k e)

-- ---- the latest deadline

later_past : (o : Option ℕ) → later (some 0) o ≡ o
later_past none = refl
later_past (some t) = let e : max 0 t ≡ t = omega arith in rw e

module _ (s : State) (k : ℕ) where
  latest-cons : (r : Row) (rs : List Row) → latest s k (r ∷ rs) ≡ later (row_end s k r) (latest s k rs)
  latest-cons no_row rs = sym (later_past (latest s k rs))
  latest-cons (row n j d u) rs = go (eqb j k)
    where
      go : (t : Bool) → (if t then later (slot_end (session_of s n)) (latest s k rs) else latest s k rs) ≡ later (if t then slot_end (session_of s n) else some 0) (latest s k rs)
      go true = refl
      go false = sym (later_past (latest s k rs))

  -- the walk begins behind the last row
  pub latest-none : (rs : List Row) (i : ℕ) → length rs ≡ i → some 0 ≡ latest s k (drop i rs)
  latest-none rs i e = rw (drop_of_length-le rs {i = i} (omega arith))

  -- a turn
  pub latest-turn : (rs : List Row) (i : ℕ) → 0 < i → i ≤ length rs → latest s k (drop (i - 1) rs) ≡ later (row_end s k (get_or rs (i - 1) no_row)) (latest s k (drop i rs))
  latest-turn rs i g h =
      let q : suc (i - 1) ≡ i = omega arith in
      rw (drop-cons rs (i - 1) no_row (omega arith)) (latest-cons (get_or rs (i - 1) no_row) (drop (suc (i - 1)) rs) ∙ rw q)

-- ---- the wait

leased_end : (o : Option Lease) (r : Option ℕ) → (token_in o ≡ 0 → ⊥) → lease_end o r ≡ some (lease_until o)
leased_end none r z = absurd (z refl)
leased_end (some l) r z = refl

unleased_end : (o : Option Lease) (r : Option ℕ) → LeaseFits o → token_in o ≡ 0 → lease_end o r ≡ r
unleased_end o r f e = rw (lease_none o f e)

module _ (s : State) (k now : ℕ) where
  pub wait_lease : (token_in (lease_on s k) ≡ 0 → ⊥) → wait s k now ≡ lease_until (lease_on s k) - now
  unfolding wait
  wait_lease z = rw (leased_end (lease_on s k) (latest s k s.rows) z)

  pub wait_rows : LeaseFits (lease_on s k) → token_in (lease_on s k) ≡ 0 → wait s k now ≡ less_now (latest s k s.rows) now
  unfolding wait
  wait_rows f e = rw (unleased_end (lease_on s k) (latest s k s.rows) f e)
