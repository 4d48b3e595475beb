-- A row of that kind is HELD; without one the table says whether it is granted.
use mathlib.Core.Path.{sym, ◌∙◌}
use Rattle.quars.proofs.Tried.{grants-by}
use Rattle.quars.proofs.would_grant.Goals as goal

pub returns-then-holds : goal.returns-then-holds
returns-then-holds c = λ σ h ok. sym (grants-by σ _ _ _ (sym (c.holds.ensures σ h) ∙ c.if-holds.true))

pub returns : goal.returns
returns c = λ σ h ok. (rw (c.from.ensures, c.from-2.ensures) at c.grants.ensures σ h ok) ∙ sym (grants-by σ _ _ _ (sym (c.holds.ensures σ h) ∙ c.if-holds.false))
