-- Each refusal, and nothing seen, is the empty stretch at the first byte; else the place and the length of what is seen.
use mathlib.Core.Path.{sym, ◌∙◌}
use native.Mathlib.Omega.{arith}
use Rattle.stretches.proofs.Shown.{shown_key, shown_unknown, shown_by}
use Rattle.stretches.proofs.part.Goals as goal

pub returns-then-key : goal.returns-then-key
returns-then-key c = (λ σ h. let a = c.args in rw (shown_key σ a.session a.key c.if-key.true), omega arith)

pub returns-then-is_unknown : goal.returns-then-is_unknown
returns-then-is_unknown c = (λ σ h. let a = c.args in rw (shown_unknown σ a.session a.key c.if-key.false (sym (c.is_unknown.ensures σ h) ∙ c.if-is_unknown.true)), omega arith)

pub returns-in-Some : goal.returns-in-Some
returns-in-Some c = (λ σ h. (shown_by σ _ _ c.if-key.false (sym (c.is_unknown.ensures σ h) ∙ c.if-is_unknown.false) (sym (c.look-sight.ensures.0 σ h) ∙ c.in-Some.is)).span, rw c.in-Some.is at c.look-sight.ensures.1)

pub returns-in-None : goal.returns-in-None
returns-in-None c = (λ σ h. (shown_by σ _ _ c.if-key.false (sym (c.is_unknown.ensures σ h) ∙ c.if-is_unknown.false) (sym (c.look-sight.ensures.0 σ h) ∙ c.in-None.is)).span, omega arith)
