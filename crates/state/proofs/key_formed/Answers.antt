-- A key is its value and its lease.
use Rattle.state.specs.Forms.{key_formed}
use Rattle.lent.proofs.Choices.{test_failed, test_passed}
use Rattle.state.proofs.key_formed.Goals as goal

pub returns-then-value_formed : goal.returns-then-value_formed
unfolding key_formed
returns-then-value_formed c = rw (test_passed c.value_formed.ensures c.if-value_formed.true) c.lease_formed.ensures

pub returns-else-value_formed : goal.returns-else-value_formed
unfolding key_formed
returns-else-value_formed c = rw (test_failed c.value_formed.ensures c.if-value_formed.false) c.if-value_formed.false
