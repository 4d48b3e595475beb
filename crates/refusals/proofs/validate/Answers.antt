-- Whoever is left validates by himself, and only a clash is a refusal.
use mathlib.Core.Path.{◌≡◌, sym, ◌∙◌}
use mathlib.Core.List.{[]}
use Rattle.machine.specs.Tables.{first}
use Rattle.machine.specs.Refusals.{refusals}
use Rattle.machine.specs.declared.Validation.{Validation}
use Rattle.machine.specs.declared.Command.TheVariants.{Validate}
use Rattle.machine.proofs.FirstRefusal.{validate_steps, validate_not_live}
use Rattle.refusals.specs.Met.{Meets}
use Rattle.refusals.proofs.Lefts.{left_is, left_nobody, meets, clash_in, validates}
use Rattle.refusals.proofs.validate.Goals as goal
use Rattle.refusals.proofs.validate.Goals.{After-validate}

pub returns-then-count-gt-STEP_MAX : goal.returns-then-count-gt-STEP_MAX
returns-then-count-gt-STEP_MAX c = λ σ h ok. meets (validate_steps _ _ _ _ c.if-count-gt-STEP_MAX.true)

pub returns-in_default : goal.returns-in_default
returns-in_default c = λ σ h ok. meets (validate_not_live _ _ _ _ c.if-count-gt-STEP_MAX.false (left_nobody _ (c.session.ensures σ h ok) c.in_default.is))

-- the refusal is by what he is told
by-validation : (c : After-validate) {r : Validation} → c.validate.result ≡ r
    → let a = c.args in Meets a.s.now a.time (λ σ. first (refusals σ (Validate a.session a.count) [])) (clash_in r)
by-validation c e = λ σ h ok. validates _ _ _ _ (left_is _ (c.session.ensures σ h ok) c.in-Some.is) c.if-count-gt-STEP_MAX.false (sym c.validate.ensures ∙ e)

pub returns-in-Seals : goal.returns-in-Seals
returns-in-Seals c = by-validation (goal.at.returns-in-Seals c).After-validate c.in-Seals.is

pub returns-in-Loses : goal.returns-in-Loses
returns-in-Loses c = by-validation (goal.at.returns-in-Loses c).After-validate c.in-Loses.is

pub returns-in-Clashes : goal.returns-in-Clashes
returns-in-Clashes c = by-validation (goal.at.returns-in-Clashes c).After-validate c.in-Clashes.is
