-- The table's word on what is held and what is asked.
use mathlib.Core.Path.{◌∙◌}
use Rattle.machine.specs.Refusals.{decide}
use Rattle.holdings.proofs.grants.Goals as goal

pub returns : goal.returns
unfolding decide
returns c = λ σ h e. c.is_grant.ensures ∙ rw (c.decide.ensures, c.held.ensures.0 σ h e)
