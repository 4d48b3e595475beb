-- A buffer of another length, or one that is not well formed, is refused; else it holds the state that it decodes to.
use Rattle.lent.proofs.Choices.{test_failed, test_passed}
use Rattle.state.proofs.Whole.{wrong_length}
use Rattle.cache.proofs.Taken.{ran_refuses, ran_does}
use Rattle.cache.proofs.run.Goals as goal

pub returns-in_default : goal.returns-in_default
returns-in_default c = ran_refuses _ _ _ _ (wrong_length _ c.in_default.ensures.cases)

pub returns-then-not-well_formed : goal.returns-then-not-well_formed
returns-then-not-well_formed c = let same = c.in-Some.ensures.cases.same in
    rw same (rw same at (ran_refuses _ c.args.time c.args.command c.args.value.now (test_failed c.well_formed-2.ensures c.if-not-well_formed.true)))

pub returns : goal.returns
returns c = rw c.in-Some.ensures.cases.same at (ran_does _ _ _ _ _ _ (test_passed c.well_formed-2.ensures c.if-not-well_formed.false) c.settle.ensures)
