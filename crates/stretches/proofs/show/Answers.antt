-- Each test that refuses, in its order; then what the session sees.
use Rattle.std.specs.Prelude.{Option}
use mathlib.Core.Path.{◌≡◌, sym, ◌∙◌}
use Rattle.machine.specs.State.{State}
use Rattle.machine.specs.Step.{show}
use Rattle.layout.specs.Holds.{Holds}
use Rattle.sights.specs.declared.Span.{Span}
use Rattle.stretches.proofs.Shown.{Shows, shown_key, shown_unknown, shown_by}
use Rattle.stretches.proofs.show.Goals as goal
use Rattle.stretches.proofs.show.Goals.{After-look-sight}

pub returns-then-key : goal.returns-then-key
returns-then-key c = λ σ h. let a = c.args in rw (shown_key σ a.session a.key c.if-key.true)

pub returns-then-is_unknown : goal.returns-then-is_unknown
returns-then-is_unknown c = λ σ h. let a = c.args in rw (shown_unknown σ a.session a.key c.if-key.false (sym (c.is_unknown.ensures σ h) ∙ c.if-is_unknown.true))

-- the tests before the look are passed, and it told d
sees : (c : After-look-sight) {d : Option Span} → c.look-sight.result ≡ d → (σ : State) → let a = c.args in Holds a.s.now σ → Shows (show σ a.session a.key) d
sees c e σ h = shown_by σ _ _ c.if-key.false (sym (c.is_unknown.ensures σ h) ∙ c.if-is_unknown.false) (sym (c.look-sight.ensures.0 σ h) ∙ e)

pub returns-in-Some : goal.returns-in-Some
returns-in-Some c = λ σ h. (sees (goal.at.returns-in-Some c).After-look-sight c.in-Some.is σ h).answer

pub returns-in-None : goal.returns-in-None
returns-in-None c = λ σ h. (sees (goal.at.returns-in-None c).After-look-sight c.in-None.is σ h).answer
