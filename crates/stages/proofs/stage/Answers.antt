-- STAGE's own tests, then what its session found; where that is its places, the record is stored and the value staged there.
use Rattle.machine.specs.declared.Refusal.{Refusal}
use Rattle.std.specs.Prelude.{Result, Ok}
use Rattle.outcome.proofs.Told.{gives}
use mathlib.Core.Path.{◌≡◌, sym, ap, ◌∙◌}
use Rattle.machine.specs.Sizes.{step_max}
use Rattle.machine.specs.State.{staged, State}
use Rattle.machine.specs.declared.Command.TheVariants.{Stage}
use Rattle.layout.specs.Holds.{Holds}
use Rattle.outcome.specs.Outcome.{tried}
use Rattle.stages.specs.declared.Staging.{Staging}
use Rattle.stages.proofs.Staged.{staged_by, staging_stored}
use Rattle.stages.proofs.Tried.{stage_key, stage_step, stage_long, stage_found}
use Rattle.std.proofs.Common.{◌<◌, rules}
use Rattle.stages.proofs.stage.Goals as goal
use Rattle.stages.proofs.stage.Goals.{After-find}

pub returns-then-key : goal.returns-then-key
returns-then-key c = λ σ h ok. gives (stage_key _ _ _ _ _ c.if-key.true) h

pub returns-then-step-ge-STEP_MAX : goal.returns-then-step-ge-STEP_MAX
returns-then-step-ge-STEP_MAX c = λ σ h ok. gives (stage_step _ _ _ _ _ c.if-step-ge-STEP_MAX.true) h

pub returns-then-value-gt-VALUE_MAX : goal.returns-then-value-gt-VALUE_MAX
returns-then-value-gt-VALUE_MAX c = λ σ h ok. gives (stage_long _ _ _ _ _ c.if-key.false c.if-step-ge-STEP_MAX.false c.if-value-gt-VALUE_MAX.true) h

pub store-requires : goal.store-requires
store-requires c = (rw (c.in-Ok-At.is, c.in-Ok-At.field-0-is) at c.find.ensures.1).0

pub stage-requires : goal.stage-requires
stage-requires c = ((rw (c.in-Ok-At.is, c.in-Ok-At.field-0-is) at c.find.ensures.1).1, search rules)

-- the tests before the search are passed, that of the step as it is told, and it found d
tried-by : (c : After-find) → c.args.step < step_max → {d : Result Staging Refusal} → c.find.result ≡ d → (σ : State)
    → let a = c.args in Holds a.s.now σ → tried σ 0 (Stage a.session a.step a.key) a.value.now ≡ staged_by σ (staged a.value.now) d
tried-by c l e σ h = stage_found _ _ _ _ _ c.if-key.false l c.if-value-gt-VALUE_MAX.false (sym (c.find.ensures.0 σ h) ∙ e)

pub returns-in-Err : goal.returns-in-Err
returns-in-Err c = λ σ h ok. gives (tried-by (goal.at.returns-in-Err c).After-find c.if-step-ge-STEP_MAX.false c.in-Err.is σ h) h

pub returns-in-Ok-Repeated : goal.returns-in-Ok-Repeated
returns-in-Ok-Repeated c = λ σ h ok. gives (tried-by (goal.at.returns-in-Ok-Repeated c).After-find c.if-step-ge-STEP_MAX.false (c.in-Ok-Repeated.is ∙ ap Ok c.in-Ok-Repeated.field-0-is) σ h) h

pub returns-in-Ok-At : goal.returns-in-Ok-At
returns-in-Ok-At c = let stage = c.stage in
    let store = c.store in
    let found = c.in-Ok-At.is ∙ ap Ok c.in-Ok-At.field-0-is in
    λ σ h ok. gives (tried-by (goal.at.returns-in-Ok-At c).After-find c.if-step-ge-STEP_MAX.false found σ h)
    (staging_stored σ _ _ _ _ ok (sym (c.find.ensures.0 σ h) ∙ found) (store.ensures σ h) (stage.ensures _))
