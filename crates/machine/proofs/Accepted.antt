-- What is known of a command that is not refused: every test of its list was false, so what it names is there, and the
-- decision table lets only an invalidation stand beside an invalidation, and no I lease beside a quarantine.
use mathlib.Core.Path.{◌≡◌, refl, sym, ap, ◌∙◌}
use mathlib.Core.Bool.{true, false}
use mathlib.Core.Logic.{◌⊎◌, inl, inr}
use mathlib.Core.List.{◌∷◌}
use mathlib.Core.Option.{Option, none, some}
use Prim.Native.Nat.{ℕ, suc}
use native.Mathlib.Omega.{arith}
use borrow.Author.Tests.{eqb-true, eq-eqb, not-false}
use lib.Dec.{leb}
use lib.ListN.{get_or}
use Rattle.lent.proofs.Choices.{clash}
use Rattle.machine.specs.Sizes.{number_max}
use Rattle.machine.specs.Tables.{place, find}
use Rattle.machine.specs.Words.{STATE, is_kind, INVALIDATE, INCREMENTAL}
use Rattle.machine.specs.Decision.{decision, grants}
use Rattle.machine.specs.State.{Value, Lease, Slot, no_session, session, Staged, Row, no_row, row, State, free, free_row, numbered, on, of_on, kind_of, session_place, session_of, row_place, row_of, session_at, row_at}
use Rattle.machine.specs.Refusals.{decide, blocked, sight, would_lease, not_live, clock_refusal, refusals, refusal}
use Rattle.machine.specs.Effects.{matches}
use Rattle.machine.specs.World.{HasRow, Sealed}
use Rattle.machine.specs.WellFormed.{Orderly, Within}
use Rattle.machine.specs.declared.Life.{Life}
use Rattle.machine.specs.declared.Session.{Session}
use Rattle.machine.specs.declared.Command.{Command}
use Rattle.machine.specs.declared.Command.TheVariants.{Get}
use Rattle.machine.proofs.Views
use Rattle.machine.proofs.Ranges.{within_means}
use Rattle.machine.proofs.Table.{only_Q1_shares, quarantined_backs_off}

-- each test of an accepted command was false: at place 0 the clock's, at place i the i-th of the command's list, in the order of specs/Refusals
pub passed : (s : State) (now : ℕ) (c : Command) (v : Value) → refusal s now c v ≡ none → (i : ℕ) → (get_or (clock_refusal s now ∷ refusals s c v) i (false, STATE)).0 ≡ false
unfolding refusal
passed s now c v e = Views.first-none (clock_refusal s now ∷ refusals s c v) e

-- where a GET is answered LEASE there was a token to give
pub room_for : (s : State) (now n k : ℕ) (v : Value) → refusal s now (Get n k) v ≡ none → sight s n k ≡ none → free_row (row_of s n k) ≡ true → blocked s k ≡ false → leb number_max s.head.next_token ≡ false
unfolding refusals would_lease
room_for s now n k v e p q b = rw (p, q, b) at (passed s now (Get n k) v e 3)

pub is_kind_lem : (d : ℕ) → is_kind d ≡ true → Within INVALIDATE INCREMENTAL d
is_kind_lem = within_means INVALIDATE INCREMENTAL

module _ (s : State) (h : Orderly s) where
  -- the first row on a key where there is one, which decides
  first_on : (i m k d : ℕ) (v : Staged) → row_at s i ≡ row m k d v → (n : ℕ) × (c : ℕ) × (u : Staged) × (find (on k) no_row s.rows ≡ row n k c u) × Within INVALIDATE INCREMENTAL c
  first_on i m k d v e =
      let r = Views.on_row k (find (on k) no_row s.rows) (Views.find_passes (on k) no_row s.rows i refl (Views.row_on m k d v (row_at s i) e)) in
      (r.0, r.1, r.2, r.3, h.kinds (place (on k) s.rows) r.0 k r.1 r.2 r.3)

  -- a row may be granted: who has one on the key invalidates, as the asker does
  pub sharing : (k a : ℕ) → Within INVALIDATE INCREMENTAL a → grants (decide s k a) ≡ true → (i m d : ℕ) (v : Staged) → row_at s i ≡ row m k d v → (a ≡ INVALIDATE) × (d ≡ INVALIDATE)
  unfolding decide
  sharing k a range e i m d v p =
      let r = first_on i m k d v p in
      let one = only_Q1_shares (suc r.1) a (omega (arith, r.4.0)) (omega (arith, r.4.1)) range.0 (omega (arith, range.1)) (rw r.3 at e) in (
        one.1,
        elim (h.alone i (place (on k) s.rows) m r.0 k d r.1 v r.2 p r.3) [
          | inl y ↦ y
          | inr y ↦ (let z : row m k d v ≡ row r.0 k r.1 r.2 = sym p ∙ ap (row_at s) y ∙ r.3 in let z' : d ≡ r.1 = cc in omega (arith, one.0))
        ],
      )

  -- an I lease may be granted: no row is on the key
  pub unblocked : (k : ℕ) → blocked s k ≡ false → (i m d : ℕ) (v : Staged) → row_at s i ≡ row m k d v → ⊥
  unfolding blocked decide
  unblocked k e i m d v p =
      let r = first_on i m k d v p in
      clash (grants (decision (suc r.1) 0)) (not-false _ (rw r.3 at e)) (rw (quarantined_backs_off (suc r.1) (omega arith) (omega (arith, r.4.1))))

-- What is found is there

-- the session of number n has that number
pub session_of-number : (s : State) (n : ℕ) (x : Session) → session_of s n ≡ session x → x.number ≡ n
session_of-number s n x e = elim (Views.find_test (numbered n) no_session s.sessions) [
  | inl p ↦ Views.no_session_lem x (sym p ∙ e)
  | inr p ↦ eqb-true x.number n (rw e at p)
]

-- the session of number n, live
pub session_of_lem : (s : State) (n : ℕ) → free (session_of s n) ≡ false → (x : Session) × (session_of s n ≡ session x) × (x.number ≡ n)
session_of_lem s n e = go (session_of s n) refl e
  where
    go : (y : Slot) → session_of s n ≡ y → free y ≡ false → (x : Session) × (y ≡ session x) × (x.number ≡ n)
    go no_session p q = clash true refl q
    go (session x) p q = (x, refl, session_of-number s n x p)

-- and sealed, where what is found is
pub sealed_session : (s : State) (n : ℕ) → free (session_of s n) ≡ false → ((x : Session) → session_of s n ≡ session x → x.life ≡ Life.Sealed) → Sealed s n
sealed_session s n e f = let x = session_of_lem s n e in record { place = session_place s n; live = x.0; is = x.1; number = x.2; life = f x.0 x.1 }

-- and where there is one, it is found
pub found_live : (s : State) (n i : ℕ) (x : Session) → session_at s i ≡ session x → x.number ≡ n → not_live s n ≡ false
found_live s n i x e num = Views.numbered_live n (session_of s n) (Views.find_passes (numbered n) no_session s.sessions i refl (rw e (eq-eqb x.number n num)))

-- and is the one there is, where numbers are unique
pub found_session : (s : State) → Orderly s → (n i : ℕ) (x : Session) → session_at s i ≡ session x → x.number ≡ n → session_of s n ≡ session x
found_session s h n i x e num = let y = session_of_lem s n (found_live s n i x e num) in ap (session_at s) (h.unique (session_place s n) i y.0 x y.1 e (y.2 ∙ sym num)) ∙ e

-- the row of session n on key k
pub row_of_lem : (s : State) (n k : ℕ) → free_row (row_of s n k) ≡ false → (i : ℕ) × (v : Staged) × (row_at s i ≡ row n k (kind_of (row_of s n k)) v)
row_of_lem s n k e = let r = go (row_of s n k) (Views.find_test (of_on n k) no_row s.rows) e in (row_place s n k, r.0, r.1)
  where
    go : (y : Row) → (y ≡ no_row) ⊎ (of_on n k y ≡ true) → free_row y ≡ false → (v : Staged) × (y ≡ row n k (kind_of y) v)
    go no_row p q = clash true refl q
    go (row m j d v) (inl p) q = Views.no_row_lem m j d v (sym p)
    go (row m j d v) (inr p) q = let r = Views.of-on_row n k (row m j d v) p in (r.1, r.2 ∙ cc)

-- and where there is one, it is found
pub found_row : (s : State) (n k : ℕ) → HasRow s.rows n k → free_row (row_of s n k) ≡ false
found_row s n k w = Views.of-on-taken n k (row_of s n k) (Views.find_passes (of_on n k) no_row s.rows w.place refl (rw (w.is, eq-eqb n n refl, eq-eqb k k refl)))

-- the lease of a token
pub matched : (t : ℕ) (o : Option Lease) → matches t o ≡ true → (l : Lease) × (o ≡ some l) × (l.token ≡ t)
matched t none e = clash false e refl
matched t (some l) e = (l, refl, eqb-true l.token t e)
