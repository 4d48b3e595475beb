-- The number is read where the place starts.
use mathlib.Core.Path.{◌∙◌}
use native.Mathlib.Omega.{arith}
use Rattle.layout.proofs.Held.{number_held}
use Rattle.sessions.proofs.number.Goals as goal

pub returns : goal.returns
returns c = λ σ h. c.load_u32.ensures ∙ number_held h c.args.i (omega arith)
