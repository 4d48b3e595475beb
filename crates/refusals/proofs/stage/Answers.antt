-- STAGE's own tests, then those of its session.
use mathlib.Core.Path.{◌∙◌}
use Rattle.machine.proofs.FirstRefusal.{stage_key, stage_step, stage_long, stage_staging}
use Rattle.refusals.proofs.Lefts.{meets}
use Rattle.refusals.proofs.stage.Goals as goal

pub returns-then-key : goal.returns-then-key
returns-then-key c = λ σ h ok. meets (stage_key _ _ _ _ _ c.if-key.true)

pub returns-then-step-ge-STEP_MAX : goal.returns-then-step-ge-STEP_MAX
returns-then-step-ge-STEP_MAX c = λ σ h ok. meets (stage_step _ _ _ _ _ c.if-step-ge-STEP_MAX.true)

pub returns-then-value-gt-VALUE_MAX : goal.returns-then-value-gt-VALUE_MAX
returns-then-value-gt-VALUE_MAX c = λ σ h ok. meets (stage_long _ _ _ _ _ c.if-key.false c.if-step-ge-STEP_MAX.false c.if-value-gt-VALUE_MAX.true)

pub returns : goal.returns
returns c = λ σ h ok. c.staging.ensures σ h ok ∙ meets (stage_staging _ _ _ _ _ c.if-key.false c.if-step-ge-STEP_MAX.false c.if-value-gt-VALUE_MAX.false)
