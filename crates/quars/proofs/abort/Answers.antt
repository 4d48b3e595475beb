-- The session leaves.
use mathlib.Core.Path.{refl}
use Rattle.outcome.proofs.Told.{gives}
use Rattle.quars.proofs.abort.Goals as goal

pub returns : goal.returns
returns c = λ σ h ok here. gives refl (c.leave.ensures σ h ok here)
