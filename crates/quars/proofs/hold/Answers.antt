-- A row of that kind is HELD; without one the table is asked.
use mathlib.Core.Path.{sym, ◌∙◌}
use Rattle.outcome.proofs.Told.{gives}
use Rattle.quars.proofs.Tried.{hold-by}
use Rattle.quars.proofs.hold.Goals as goal

pub returns-then-holds : goal.returns-then-holds
returns-then-holds c = λ σ h ok here. gives (hold-by σ _ _ _ (sym (c.holds.ensures σ h) ∙ c.if-holds.true)) h

pub returns : goal.returns
returns c = let ask = c.ask in
    let if1 = c.if-holds in
    let holds = c.holds in
    λ σ h ok here. rw (hold-by σ _ _ _ (sym (holds.ensures σ h) ∙ if1.false)) (ask.ensures σ h ok here)
