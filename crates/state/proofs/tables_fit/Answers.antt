-- Each test is the next of the definition; the sessions that fit stand side by side, where the rows find them.
use Rattle.lent.proofs.Choices.{test_failed, test_passed}
use Rattle.state.specs.Forms.{tables_fit}
use Rattle.state.proofs.tables_fit.Goals as goal

pub returns-else-is_zero : goal.returns-else-is_zero
unfolding tables_fit
returns-else-is_zero c = rw (test_failed c.is_zero.ensures c.if-is_zero.false) c.if-is_zero.false

pub returns-else-sessions_fit : goal.returns-else-sessions_fit
unfolding tables_fit
returns-else-sessions_fit c = rw (test_passed c.is_zero.ensures c.if-is_zero.true, test_failed c.sessions_fit.ensures.0 c.if-sessions_fit.false) c.if-sessions_fit.false

pub returns-else-keys_fit : goal.returns-else-keys_fit
unfolding tables_fit
returns-else-keys_fit c = rw (test_passed c.is_zero.ensures c.if-is_zero.true, test_passed c.sessions_fit.ensures.0 c.if-sessions_fit.true, test_failed c.keys_fit.ensures c.if-keys_fit.false) c.if-keys_fit.false

pub returns-then-keys_fit : goal.returns-then-keys_fit
unfolding tables_fit
returns-then-keys_fit c = rw (test_passed c.is_zero.ensures c.if-is_zero.true, test_passed c.sessions_fit.ensures.0 c.if-sessions_fit.true, test_passed c.keys_fit.ensures c.if-keys_fit.true) c.rows_fit.ensures
