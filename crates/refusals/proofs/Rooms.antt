-- A table is full after expiry exactly if it is full and nothing of it goes. Where the rows are, they are as they were, and what QUAR would be
-- granted is as it was: of the rest only an I lease may have lapsed, and a quarantine is granted over one as over nothing.
use Rattle.std.specs.Prelude.{if◌then◌else◌, Option as Found, is_some}
use mathlib.Core.Path.{◌≡◌, refl, sym, ap, ◌∙◌}
use mathlib.Core.Bool.{Bool, true, false, not, ◌&&◌, ◌||◌}
use mathlib.Core.List.{[]}
use mathlib.Core.Option.{Option, none, some}
use Prim.Native.Nat.{ℕ, ◌<◌}
use native.Mathlib.Omega.{arith}
use lib.Dec.{eqb}
use borrow.Author.Tests.{not-true}
use Rattle.lent.proofs.Choices.{or_no}
use Rattle.machine.specs.Sizes.{key_count, session_count, row_count}
use Rattle.machine.specs.Tables.{place, find, any, first}
use Rattle.machine.specs.Words.{ROOM, INVALIDATE, INCREMENTAL, is_kind}
use Rattle.machine.specs.Session.{is_due, is_sealed}
use Rattle.machine.specs.Decision.{decision, grants}
use Rattle.machine.specs.State.{Lease, Slot, no_session, session, Row, no_row, row, State, free, free_row, on, kind_of, session_of, row_of, lease_on}
use Rattle.machine.specs.Expiry.{free_if_of, expire}
use Rattle.machine.specs.Sound.{sound}
use Rattle.machine.specs.Refusals.{held_by, decide, sessions_full, rows_full, would_grant, refusals}
use Rattle.machine.specs.WellFormed.{Within}
use Rattle.machine.specs.declared.Session.{Session}
use Rattle.machine.specs.declared.Command.TheVariants.{Quar}
use Rattle.machine.proofs.Accepted.{is_kind_lem, session_of-number}
use Rattle.machine.proofs.FirstRefusal.{quar_full}
use Rattle.machine.proofs.Table.{free-grants, Q-voids-I}
use Rattle.machine.proofs.SoundMeans.{sessions_length, rows_length}
use Rattle.layout.specs.Search.{found}
use Rattle.deadlines.specs.Deadlines.{due_slot}
use Rattle.sweep.specs.Lapsing.{free_due}
use Rattle.sweep.proofs.Lapsing.{unmapped}
use Rattle.refusals.specs.Left.{goes}
use Rattle.refusals.proofs.Searches.{found-any, full_mapped}
use Rattle.refusals.proofs.Expired.{due, rows_expired, sessions_expired, due_is}

grants_over_lease : (kind : ℕ) → Within INVALIDATE INCREMENTAL kind → (o : Option Lease) → grants (decision (held_by no_row o) kind) ≡ true
grants_over_lease kind d none = ap grants (free-grants kind (omega (arith, d.1)))
grants_over_lease kind d (some l) = ap grants (Q-voids-I kind d.0 (omega (arith, d.1)))

-- an open session x asks for a quarantine, and the arguments are right
pub record Asks (s : State) (n k d : ℕ) (x : Session) : Type 0 where
  pub key : k < key_count
  pub kind : is_kind d ≡ true
  pub live : session_of s n ≡ session x
  pub unsealed : is_sealed x ≡ false

module _ (s : State) (ok : sound s ≡ true) (now : ℕ) where
  sessions_full_expired : sessions_full (expire now s) ≡ not (any free s.sessions || any (due_slot now) s.sessions)
  sessions_full_expired =
      rw (sessions_expired s ok now) (full_mapped free (free_due now) (due_slot now) each s.sessions session_count (sessions_length s ok))
    where
      each : (e : Slot) → free (free_due now e) ≡ free e || due_slot now e
      each no_session = refl
      each (session x) = go (is_due now x)
        where
          go : (t : Bool) → free (if t then no_session else session x) ≡ t
          go true = refl
          go false = refl

  rows_full_expired : rows_full (expire now s) ≡ not (any free_row s.rows || any (goes now s) s.rows)
  rows_full_expired =
      rw (rows_expired s now) (full_mapped free_row (free_if_of (due s now)) (goes now s) each s.rows row_count (rows_length s ok))
    where
      each : (r : Row) → free_row (free_if_of (due s now) r) ≡ free_row r || goes now s r
      each no_row = refl
      each (row n k d u) = rw (due_is s ok now n) (go (due_slot now (session_of s n)))
        where
          go : (t : Bool) → free_row (if t then no_row else row n k d u) ≡ t
          go true = refl
          go false = refl

  -- by the search for a free one
  pub sessions_full_told : (f : Found ℕ) {r t : Bool} → f ≡ found session_count (place free s.sessions) → is_some f ≡ r → t ≡ any (due_slot now) s.sessions → not (r || t) ≡ sessions_full (expire now s)
  sessions_full_told f p q e = rw (e, ← q, ← found-any free no_session s.sessions session_count (sessions_length s ok) f p) (sym sessions_full_expired)

  pub rows_full_told : (f : Found ℕ) {r t : Bool} → f ≡ found row_count (place free_row s.rows) → is_some f ≡ r → t ≡ any (goes now s) s.rows → not (r || t) ≡ rows_full (expire now s)
  rows_full_told f p q e = rw (e, ← q, ← found-any free_row no_row s.rows row_count (rows_length s ok) f p) (sym rows_full_expired)

  module _ (full : rows_full (expire now s) ≡ true) where
    rows_stay : (expire now s).rows ≡ s.rows
    rows_stay = rows_expired s now ∙ unmapped (goes now s) (free_if_of (due s now)) same s.rows nothing_free_or_going.1
      where
        nothing_free_or_going : (any free_row s.rows ≡ false) × (any (goes now s) s.rows ≡ false)
        nothing_free_or_going = or_no (any free_row s.rows) (any (goes now s) s.rows) (not-true (any free_row s.rows || any (goes now s) s.rows) (sym rows_full_expired ∙ full))

        same : (r : Row) → goes now s r ≡ false → free_if_of (due s now) r ≡ r
        same no_row g = refl
        same (row n k d u) g = rw (due_is s ok now n ∙ g)

    grants-expired : (n k kind : ℕ) → Within INVALIDATE INCREMENTAL kind → would_grant (expire now s) n k kind ≡ would_grant s n k kind
    unfolding would_grant decide
    grants-expired n k kind d = rw rows_stay (ap (λ (g : Bool). not (eqb (kind_of (row_of s n k)) kind) && g) (go (find (on k) no_row s.rows)))
      where
        go : (r : Row) → grants (decision (held_by r (lease_on (expire now s) k)) kind) ≡ grants (decision (held_by r (lease_on s k)) kind)
        go no_row = grants_over_lease kind d (lease_on (expire now s) k) ∙ sym (grants_over_lease kind d (lease_on s k))
        go (row m j d u) = refl

    -- QUAR by an open session is refused if it would be granted on the state as it is
    pub quar_expired : {n k kind : ℕ} {x : Session} {t : Bool} → Asks (expire now s) n k kind x → would_grant s x.number k kind ≡ t → first (refusals (expire now s) (Quar n k kind) []) ≡ (if t then some ROOM else none)
    quar_expired {n} {k} {kind} {x} w g =
        quar_full (expire now s) n k kind [] w.key w.kind x w.live w.unsealed full
        ∙ ap (λ (b : Bool). if b then some ROOM else none) (grants-expired n k kind (is_kind_lem kind w.kind) ∙ ap (λ (m : ℕ). would_grant s m k kind) (sym (session_of-number (expire now s) n x w.live)) ∙ g)
