-- No row, a row of another kind, then what the session's record says of the step.
use Rattle.std.specs.Prelude.{Ok}
use mathlib.Core.Path.{◌≡◌, sym, ◌∙◌}
use Rattle.machine.specs.State.{State}
use Rattle.machine.specs.declared.Step.{Step}
use Rattle.layout.specs.Holds.{Holds}
use Rattle.askers.specs.Asker.{asker_of}
use Rattle.stages.specs.Staging.{staging_of}
use Rattle.stages.proofs.Found.{stepped, staging_rowless, staging_kind, staging_steps}
use Rattle.stages.proofs.steps.Goals as goal
use Rattle.stages.proofs.steps.Goals.{After-step}

pub returns-in_default : goal.returns-in_default
returns-in_default c = (λ σ h q. sym (staging_rowless _ _ _ _ _ _ q h.fits.rows (sym (rw c.from.ensures at c.find.ensures.0 σ h) ∙ c.in_default.is)), tt)

pub kind-requires : goal.kind-requires
kind-requires c = rw c.in-Some.is at c.find.ensures.1

pub returns-then-kind : goal.returns-then-kind
returns-then-kind c = let kind = c.kind in
    let row = c.in-Some in
    let find = c.find in
    (λ σ h q. sym (staging_kind _ _ _ _ _ _ q h.fits.rows _ (sym (rw c.from.ensures at find.ensures.0 σ h) ∙ row.is) (λ e. c.if-kind.true (kind.ensures σ h ∙ e))), tt)

-- the row was found, of the kind, and the session's record was asked
here : (c : After-step) {d : Step} → c.step.result ≡ d → (σ : State)
    → let a = c.args in Holds a.s.now σ → asker_of σ a.asker.session.number ≡ Ok a.asker
    → stepped a.asker.place c.in-Some.row d ≡ staging_of σ a.asker.session.number a.step a.k a.kind
here c e σ h q =
    let if1 = c.if-kind in
    let kind = c.kind in
    let row = c.in-Some in
    let find = c.find in
    sym (staging_steps _ _ _ _ _ _ q h.fits.rows _ (sym (rw c.from.ensures at find.ensures.0 σ h) ∙ row.is) _ (sym (kind.ensures σ h) ∙ if1.false) (sym c.step.ensures ∙ e))

pub returns-in-Repeats : goal.returns-in-Repeats
returns-in-Repeats c = (here (goal.at.returns-in-Repeats c).After-step c.in-Repeats.is, tt)

pub returns-in-Ahead : goal.returns-in-Ahead
returns-in-Ahead c = (here (goal.at.returns-in-Ahead c).After-step c.in-Ahead.is, tt)

pub returns-in-Acts : goal.returns-in-Acts
returns-in-Acts c = let row = c.in-Some in
    let find = c.find in
    let pre = c.requires in
    (here (goal.at.returns-in-Acts c).After-step c.in-Acts.is, (pre.0, rw row.is at find.ensures.1))
