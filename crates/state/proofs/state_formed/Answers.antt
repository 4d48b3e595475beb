-- The header, then the tables; a clock that passed leaves room for a lifetime.
use Rattle.state.specs.Forms.{state_formed}
use Rattle.lent.proofs.Choices.{test_failed, test_passed}
use Rattle.state.proofs.Records.{head_clock}
use Rattle.state.proofs.state_formed.Goals as goal

pub tables_fit-requires : goal.tables_fit-requires
tables_fit-requires c = head_clock _ (test_passed c.head_formed.ensures c.if-head_formed.true)

pub returns-then-head_formed : goal.returns-then-head_formed
unfolding state_formed
returns-then-head_formed c = rw (test_passed c.head_formed.ensures c.if-head_formed.true) c.tables_fit.ensures

pub returns-else-head_formed : goal.returns-else-head_formed
unfolding state_formed
returns-else-head_formed c = rw (test_failed c.head_formed.ensures c.if-head_formed.false) c.if-head_formed.false
