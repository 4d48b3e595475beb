-- The table grants it or not (`ask-by`), and the row is taken or the session leaves.
use mathlib.Core.Path.{sym, ◌∙◌}
use Rattle.layout.proofs.Held.{number-given}
use Rattle.quars.proofs.Tried.{ask-by}
use Rattle.quars.proofs.ask.Goals as goal

pub returns-then-grants : goal.returns-then-grants
returns-then-grants c = let grants = c.grants in
    λ σ h ok here. rw (ask-by σ _ _ _ (sym (rw (c.from.ensures, c.from-2.ensures) at grants.ensures σ h ok) ∙ c.if-grants.true))
    (c.grant.ensures σ h (number-given h c.args.place c.requires.0 c.args.n here))

pub returns : goal.returns
returns c = let grants = c.grants in
    λ σ h ok here. rw (ask-by σ _ _ _ (sym (rw (c.from.ensures, c.from-2.ensures) at grants.ensures σ h ok) ∙ c.if-grants.false)) (c.abort.ensures σ h ok here)
