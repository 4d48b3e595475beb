-- The part of the slice is the window.
use Rattle.lent.proofs.Splice.{part_win}
use Rattle.deltas.proofs.operate_at.Goals as goal

pub returns : goal.returns
returns c = rw (← part_win) c.operate.ensures
