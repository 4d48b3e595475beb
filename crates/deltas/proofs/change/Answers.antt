-- What `work` made is what is to be staged, and the row is written with it.
use native.Mathlib.Omega.{arith}
use lib.ListN.{length-take}
use borrow.Author.Rules.{rules}
use Rattle.deltas.proofs.Tried.{change_gives}
use Rattle.deltas.proofs.change.Goals as goal

pub slice_bounds-out-end : goal.slice_bounds-out-end
slice_bounds-out-end c = omega (arith, rw c.in-Some.is at c.work.ensures.1)

pub slice_bounds-stage-end : goal.slice_bounds-stage-end
slice_bounds-stage-end c = let m = rw c.in-Some.is at c.work.ensures.1 in simp length-take (omega arith)

pub stage-requires : goal.stage-requires
stage-requires c = (search rules, (let m = rw c.in-Some.is at c.work.ensures.1 in simp length-take (omega arith)))

pub returns-in-Some : goal.returns-in-Some
returns-in-Some c = λ σ h taken. change_gives _ _ _ _ _ _ (c.work.ensures.0 σ h) c.in-Some.is (c.stage.ensures σ h taken)

pub returns-in-None : goal.returns-in-None
returns-in-None c = λ σ h taken. change_gives _ _ _ _ _ _ (c.work.ensures.0 σ h) c.in-None.is (c.stage_drop.ensures σ h taken)
