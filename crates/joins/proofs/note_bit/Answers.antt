-- The word read is the one that is tested and stored with its bit.
use mathlib.Core.Path.{ap}
use lib.ListN.{set}
use Rattle.joins.proofs.note_bit.Goals as goal

pub returns : goal.returns
returns c = (c.bit_test.ensures, ap (set c.args.marks.now c.args.k) c.bit_with.ensures)
