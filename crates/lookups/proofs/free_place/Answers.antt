-- A free row is one whose session is 0.
use Rattle.lookups.proofs.Tests.{free_search}
use mathlib.Core.Path.{◌∙◌}
use Rattle.lookups.proofs.free_place.Goals as goal

pub returns : goal.returns
returns c = (λ σ h. c.find_number.ensures.0 ∙ free_search h, c.find_number.ensures.1)
