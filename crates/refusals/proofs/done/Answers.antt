-- Whoever is left decides: nobody, one who is not sealed, or one who may go.
use Rattle.lent.proofs.Choices.{test_failed, test_passed}
use Rattle.machine.proofs.FirstRefusal.{done_not_live, done_open, done_none}
use Rattle.refusals.proofs.Lefts.{left_is, left_nobody, meets}
use Rattle.refusals.proofs.done.Goals as goal

pub returns-in_default : goal.returns-in_default
returns-in_default c = λ σ h ok. meets (done_not_live _ _ _ (left_nobody _ (c.session.ensures σ h ok) c.in_default.is))

pub returns-then-not-is_sealed : goal.returns-then-not-is_sealed
returns-then-not-is_sealed c = λ σ h ok. meets (done_open _ _ _ _ (left_is _ (c.session.ensures σ h ok) c.in-Some.is) (test_failed c.is_sealed.ensures c.if-not-is_sealed.true))

pub returns : goal.returns
returns c = λ σ h ok. meets (done_none _ _ _ _ (left_is _ (c.session.ensures σ h ok) c.in-Some.is) (test_passed c.is_sealed.ensures c.if-not-is_sealed.false))
