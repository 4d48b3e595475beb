-- A loop over the lent state that takes a step for each index: after i turns the bytes hold the state after i steps, a turn is one step more, and
-- at the end they hold what all the steps come to.
use mathlib.Core.Path.{◌≡◌}
use mathlib.Core.List.{List}
use Prim.Native.Nat.{ℕ, ◌+◌}
use Rattle.lent.proofs.Walks.{iter, iter-more}
use Rattle.machine.specs.State.{State}
use Rattle.layout.specs.Holds.{Holds}

-- b before the loop, c after i turns
pub record Walked (step : ℕ → State → State) (i : ℕ) (b c : List ℕ) : Type 0 where
  pub holds : (s : State) → Holds b s → Holds c (iter step i s)

module _ {step : ℕ → State → State} {b : List ℕ} where
  pub walked_none : Walked step 0 b b
  unfolding iter
  walked_none = record { holds = λ s h. h }

  module _ {i : ℕ} {c : List ℕ} (w : Walked step i b c) where
    pub walked_more : {d : List ℕ} → ((s : State) → Holds c s → Holds d (step i s)) → Walked step (i + 1) b d
    walked_more f = record { holds = λ s h. rw (iter-more step i s) (f _ (w.holds s h)) }

    pub walked_all : {n : ℕ} → i ≡ n → {s t : State} → Holds b s → iter step n s ≡ t → Holds c t
    walked_all e {s} h q = rw (← q, ← e) (w.holds s h)
