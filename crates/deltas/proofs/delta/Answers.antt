-- DELTA's own tests, then what its session found; where that is its places, the record is stored and the row changed.
use Rattle.std.specs.Prelude.{Ok}
use mathlib.Core.Path.{sym, ap, ◌∙◌}
use Rattle.std.proofs.Common.{length, ◌≤◌}
use Rattle.lent.proofs.Choices.{test_failed, test_passed}
use Rattle.machine.specs.Sizes.{value_max}
use Rattle.stages.proofs.Staged.{staging_stored}
use Rattle.outcome.proofs.Told.{gives}
use Rattle.deltas.proofs.Tried.{Right, delta_key, delta_operation, delta_step, delta_long, delta_found, delta_changes}
use Rattle.deltas.proofs.delta.Goals as goal
use Rattle.deltas.proofs.delta.Goals.{After-find}

pub returns-then-key : goal.returns-then-key
returns-then-key c = λ σ h ok. gives (delta_key _ _ _ _ _ _ c.if-key.true) h

pub returns-then-not-is_operation : goal.returns-then-not-is_operation
returns-then-not-is_operation c = λ σ h ok. gives (delta_operation _ _ _ _ _ _ (test_failed c.is_operation.ensures c.if-not-is_operation.true)) h

pub returns-then-step-ge-STEP_MAX : goal.returns-then-step-ge-STEP_MAX
returns-then-step-ge-STEP_MAX c = λ σ h ok. gives (delta_step _ _ _ _ _ _ c.if-step-ge-STEP_MAX.true) h

pub returns-then-operand-gt-VALUE_MAX : goal.returns-then-operand-gt-VALUE_MAX
returns-then-operand-gt-VALUE_MAX c = let if3 = c.if-step-ge-STEP_MAX in
    let if2 = c.if-not-is_operation in
    let is-operation = c.is_operation in
    let if1 = c.if-key in
    λ σ h ok. gives (delta_long _ _ _ _ _ _ if1.false (test_passed is-operation.ensures if2.false) if3.false c.if-operand-gt-VALUE_MAX.true) h

pub store-requires : goal.store-requires
store-requires c = (rw (c.in-Ok-At.is, c.in-Ok-At.field-0-is) at c.find.ensures.1).0

pub change-requires : goal.change-requires
change-requires c = ((rw (c.in-Ok-At.is, c.in-Ok-At.field-0-is) at c.find.ensures.1).1, c.if-key.false)

-- the tests before the search are passed, that of the operand's length as it is told
right : (c : After-find) → length c.args.operand.now ≤ value_max → let a = c.args in Right a.step a.key a.operation a.operand.now
right c l =
    let if3 = c.if-step-ge-STEP_MAX in
    let if2 = c.if-not-is_operation in
    let is-operation = c.is_operation in
    let if1 = c.if-key in
    record { key = if1.false; operation = test_passed is-operation.ensures if2.false; step = if3.false; short = l }

pub returns-in-Err : goal.returns-in-Err
returns-in-Err c = λ σ h ok. gives (delta_found _ _ _ _ _ _ (right (goal.at.returns-in-Err c).After-find c.if-operand-gt-VALUE_MAX.false) (sym (c.find.ensures.0 σ h) ∙ c.in-Err.is)) h

pub returns-in-Ok-Repeated : goal.returns-in-Ok-Repeated
returns-in-Ok-Repeated c = λ σ h ok. gives (delta_found _ _ _ _ _ _ (right (goal.at.returns-in-Ok-Repeated c).After-find c.if-operand-gt-VALUE_MAX.false) (sym (c.find.ensures.0 σ h) ∙ c.in-Ok-Repeated.is ∙ ap Ok c.in-Ok-Repeated.field-0-is)) h

pub returns-in-Ok-At : goal.returns-in-Ok-At
returns-in-Ok-At c = let change = c.change in
    let store = c.store in
    λ σ h ok. let q = sym (c.find.ensures.0 σ h) ∙ c.in-Ok-At.is ∙ ap Ok c.in-Ok-At.field-0-is in
    rw (delta_changes _ _ _ _ _ _ (right (goal.at.returns-in-Ok-At c).After-find c.if-operand-gt-VALUE_MAX.false) ok _ _ _ q) (staging_stored σ _ _ _ _ ok q (store.ensures σ h) (change.ensures _))
