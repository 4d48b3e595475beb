-- A free place is one that starts with the number 0.
use mathlib.Core.Path.{◌∙◌}
use Rattle.sessions.proofs.Slots.{free_search}
use Rattle.sessions.proofs.free_place.Goals as goal

pub returns : goal.returns
returns c = (λ σ h. c.find_number.ensures.0 ∙ free_search h, c.find_number.ensures.1)
