-- The bit of the place is that of its word.
use mathlib.Core.Bool.{not}
use mathlib.Core.Path.{ap}
use Rattle.joins.proofs.shares.Goals as goal

pub returns : goal.returns
returns c = (ap not c.note_bit.ensures.0, c.note_bit.ensures.1)
