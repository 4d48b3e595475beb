-- DELTA's own tests, then those of its session.
use Rattle.lent.proofs.Choices.{test_failed, test_passed}
use mathlib.Core.Path.{◌∙◌}
use Rattle.machine.proofs.FirstRefusal.{delta_key, delta_operation, delta_step, delta_long, delta_staging}
use Rattle.refusals.proofs.Lefts.{meets}
use Rattle.refusals.proofs.delta.Goals as goal

pub returns-then-key : goal.returns-then-key
returns-then-key c = λ σ h ok. meets (delta_key _ _ _ _ _ _ c.if-key.true)

pub returns-then-not-is_operation : goal.returns-then-not-is_operation
returns-then-not-is_operation c = λ σ h ok. meets (delta_operation _ _ _ _ _ _ (test_failed c.is_operation.ensures c.if-not-is_operation.true))

pub returns-then-step-ge-STEP_MAX : goal.returns-then-step-ge-STEP_MAX
returns-then-step-ge-STEP_MAX c = λ σ h ok. meets (delta_step _ _ _ _ _ _ c.if-step-ge-STEP_MAX.true)

pub returns-then-operand-gt-VALUE_MAX : goal.returns-then-operand-gt-VALUE_MAX
returns-then-operand-gt-VALUE_MAX c = λ σ h ok. meets (delta_long _ _ _ _ _ _ c.if-key.false (test_passed c.is_operation.ensures c.if-not-is_operation.false) c.if-step-ge-STEP_MAX.false c.if-operand-gt-VALUE_MAX.true)

pub returns : goal.returns
returns c =
    let if2 = c.if-not-is_operation in
    let is-operation = c.is_operation in
    let if1 = c.if-key in
    λ σ h ok. c.staging.ensures σ h ok
    ∙ meets (delta_staging _ _ _ _ _ _ if1.false (test_passed is-operation.ensures if2.false) c.if-step-ge-STEP_MAX.false c.if-operand-gt-VALUE_MAX.false)
