-- The invariant of demand 3. A cached value is the register's, unless a session that has written has a row on its key; on
-- a quarantined key it is what the register held when the quarantine began; and what a token may fill is the register's
-- value, since a leased key has no row and so is not written.
-- Here: the invariant, the frame that a command's effect has to prove, that the frame gives the invariant, START, and a register write.
use Rattle.std.specs.Prelude.{if◌then◌else◌}
use mathlib.Core.Path.{◌≡◌, refl, ap, ◌∙◌}
use mathlib.Core.Bool.{Bool, true, false, not, ◌&&◌, ◌||◌, or-true}
use mathlib.Core.Logic.{◌⊎◌, inl, inr}
use mathlib.Core.List.{List, Memᴰ, ◌∷◌}
use mathlib.Core.Option.{some}
use Prim.Native.Nat.{ℕ, ◌≤◌, ◌<◌}
use native.Mathlib.Omega.{arith}
use borrow.Author.Tests.{eqb-true, eq-eqb}
use lib.Dec.{eqb}
use lib.ListN.{get_or}
use Rattle.lent.proofs.Choices.{case_of, clash}
use Rattle.machine.specs.Tables.{any}
use Rattle.machine.specs.State.{Value, Lease, session, Row, no_row, State, fresh, on, cached, lease_on, session_at}
use Rattle.machine.specs.Refusals.{not_live}
use Rattle.machine.specs.World.{World, fresh_world, since_grant, written, HasRow, Sealed}
use Rattle.machine.specs.WellFormed.{Orderly}
use Rattle.machine.specs.declared.Life.{Life}
use Rattle.machine.specs.declared.Session.{Session}
use Rattle.machine.specs.declared.Answer.{Answer}
use Rattle.machine.proofs.Views
use Rattle.machine.proofs.OrderlyKept.{StoodAt, orderly_fresh}
use Rattle.machine.proofs.Accepted.{found_live, found_session}

-- a row on the key
pub record RowOn (rows : List Row) (k : ℕ) : Type 0 where
  pub number : ℕ
  pub holds : HasRow rows number k

-- a row on it of a session for which the register has written
pub record Written (rows : List Row) (wrote : ℕ → Bool) (k : ℕ) : Type 0 where
  pub number : ℕ
  pub holds : HasRow rows number k
  pub did : wrote number ≡ true

pub record Good (w : World) : Type 0 where
  pub orderly : Orderly w.state
  pub current : (k : ℕ) (v : Value) → cached w.state k ≡ some v → (v ≡ w.register k) ⊎ Written w.state.rows w.wrote k
  pub older : (k : ℕ) (v : Value) → cached w.state k ≡ some v → RowOn w.state.rows k → v ≡ w.began k
  pub unwritten : (k : ℕ) (l : Lease) → lease_on w.state k ≡ some l → (u : Value) → Memᴰ u (w.since l.token k) → u ≡ w.register k
  -- a session that has written is sealed, if it is live, and its number will not be given again
  pub writers : (n : ℕ) → w.wrote n ≡ true → (n < w.state.head.next_session) × ((i : ℕ) (x : Session) → session_at w.state i ≡ session x → x.number ≡ n → x.life ≡ Life.Sealed)

-- what an effect, answered a, on the world's state after expiry must do to give the state t
pub record Frame (w : World) (a : Answer) (t : State) : Type 0 where
  -- on a key with a row after it, no value is new
  pub keeps : (k : ℕ) (v : Value) → cached t k ≡ some v → RowOn t.rows k → cached w.state k ≡ some v
  -- a value is the register's, or was there, and then no writer's row on its key went
  pub value : (k : ℕ) (v : Value) → cached t k ≡ some v → (v ≡ w.register k) ⊎ ((cached w.state k ≡ some v) × (Written w.state.rows w.wrote k → Written t.rows w.wrote k))
  -- a session has a new number, or was there, and stays sealed if it was
  pub opens : (i : ℕ) (x : Session) → session_at t i ≡ session x → StoodAt w.state i x
  pub grows : w.state.head.next_session ≤ t.head.next_session
  -- what a token may fill is the register's value
  pub unwritten : (k : ℕ) (l : Lease) → lease_on t k ≡ some l → (u : Value) → Memᴰ u (since_grant w.register w.since a l.token k) → u ≡ w.register k

-- the world with the state t, in which older values are as `began` says
pub reframed : (w : World) → Good w → (a : Answer) (t : State) (began : ℕ → Value) → Orderly t → Frame w a t → ((k : ℕ) (v : Value) → cached t k ≡ some v → RowOn t.rows k → v ≡ began k)
    → Good (record { state = t; register = w.register; began = began; since = since_grant w.register w.since a; wrote = w.wrote })
reframed w g a t began h f older = record {
  orderly = h;
  current = λ k v p. elim (f.value k v p) [ inl x ↦ inl x | inr x ↦ elim (g.current k v x.0) [ inl y ↦ inl y | inr y ↦ inr (x.1 y) ] ];
  older = older;
  unwritten = f.unwritten;
  writers = λ n e. let x = g.writers n e in let more = f.grows in
      (omega (arith, x.0), λ i m p num. elim (f.opens i m p) [ inl y ↦ absurd (omega (arith, x.0)) | inr y ↦ y.3 (x.1 i y.0 y.1 (y.2 ∙ num)) ]);
}

pub row_on-quarantined : (rs : List Row) (k : ℕ) → RowOn rs k → any (on k) rs ≡ true
row_on-quarantined rs k q = Views.any_at (on k) no_row rs q.holds.place refl (Views.row_on q.number k q.holds.kind q.holds.what _ q.holds.is)

pub quarantined_row_on : (rs : List Row) (k : ℕ) → any (on k) rs ≡ true → RowOn rs k
quarantined_row_on rs k e = let r = Views.any_place (on k) no_row rs e in let x = Views.on_row k (get_or rs r.0 no_row) r.1 in
    record { number = x.0; holds = record { place = r.0; kind = x.1; what = x.2; is = x.3 } }

pub no_row_on : (s : State) → Orderly s → (k : ℕ) (l : Lease) → lease_on s k ≡ some l → RowOn s.rows k → ⊥
no_row_on s h k l e q = (h.leases k l e).1 q.holds.place q.number q.holds.kind q.holds.what q.holds.is

-- START
pub fresh_good : (read_life write_life : ℕ) → Good (fresh_world read_life write_life)
unfolding fresh
fresh_good read_life write_life = record {
  orderly = orderly_fresh read_life write_life;
  current = λ k v e. Views.fresh_value read_life write_life k v e;
  older = λ k v e q. Views.fresh_value read_life write_life k v e;
  unwritten = λ k l e u m. Views.fresh_lease read_life write_life k l e;
  writers = λ n e. clash false e refl;
}

-- a register write, by rule 2
pub written_good : (w : World) → Good w → (n k : ℕ) (v : Value) → Sealed w.state n → HasRow w.state.rows n k → Good (written w n k v)
unfolding written
written_good w g n k v live holds = record {
  orderly = g.orderly;
  current = λ j u p. current j u (case_of (eqb j k)) (g.current j u p);
  older = g.older;
  unwritten = λ j l p u m. unwritten j l p u m (case_of (eqb j k));
  writers = λ m e. writers m e (case_of (eqb m n));
}
  where
    wrote' : ℕ → Bool
    wrote' m = eqb m n && not (not_live w.state n) || w.wrote m

    did : wrote' n ≡ true
    did = rw (eq-eqb n n refl, found_live w.state n live.place live.live live.is live.number)

    -- the session's row, as one on j
    held : (j : ℕ) → eqb j k ≡ true → HasRow w.state.rows n j
    held j e = record { place = holds.place; kind = holds.kind; what = holds.what; is = rw (eqb-true j k e) holds.is }

    current : (j : ℕ) (u : Value) → (eqb j k ≡ true) ⊎ (eqb j k ≡ false) → (u ≡ w.register j) ⊎ Written w.state.rows w.wrote j → (u ≡ (if eqb j k then v else w.register j)) ⊎ Written w.state.rows wrote' j
    current j u (inl e) q = inr (record { number = n; did = did; holds = held j e })
    current j u (inr e) (inl q) = inl (rw e q)
    current j u (inr e) (inr q) = inr (record { number = q.number; holds = q.holds; did = rw q.did (or-true (eqb q.number n && not (not_live w.state n))) })

    unwritten : (j : ℕ) (l : Lease) → lease_on w.state j ≡ some l → (u : Value) → Memᴰ u (if eqb j k then v ∷ w.since l.token j else w.since l.token j) → (eqb j k ≡ true) ⊎ (eqb j k ≡ false) → u ≡ (if eqb j k then v else w.register j)
    unwritten j l p u m (inl e) = absurd (no_row_on w.state g.orderly j l p (record { number = n; holds = held j e }))
    unwritten j l p u m (inr e) = rw e (g.unwritten j l p u (rw e at m))

    writers : (m : ℕ) → wrote' m ≡ true → (eqb m n ≡ true) ⊎ (eqb m n ≡ false) → (m < w.state.head.next_session) × ((i : ℕ) (x : Session) → session_at w.state i ≡ session x → x.number ≡ m → x.life ≡ Life.Sealed)
    writers m e (inl q) = rw (eqb-true m n q) (
      rw (← live.number) (g.orderly.numbers live.place live.live live.is),
      λ i x p num.
          let a = found_session w.state g.orderly n i x p num in
          let b = found_session w.state g.orderly n live.place live.live live.is live.number in
          let z : x ≡ live.live = cc in ap (λ (a : Session). a.life) z ∙ live.life,
    )
    writers m e (inr q) = g.writers m (rw q at e)
