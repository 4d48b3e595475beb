-- The number is read where the header keeps it.
use mathlib.Core.Path.{◌∙◌}
use Rattle.layout.proofs.Held.{clock_held}
use Rattle.header.proofs.clock.Goals as goal

pub returns : goal.returns
returns c = λ σ h. c.load_u64.ensures ∙ clock_held h
