-- The three numbers are the answer's.
use mathlib.Core.Path.{refl}
use Rattle.exported.proofs.tell.Goals as goal

pub returns : goal.returns
returns c = rw c.from-n.ensures (record { word = refl; numbers = refl })
