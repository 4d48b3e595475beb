use Rattle.std.proofs.Common.{◌≡◌}
use Rattle.lent.specs.Bytes.{splice, win}
use Rattle.blocks.proofs.copy_in.Given as goal

abbrev pub invariant-loop-i : goal.invariant-loop-i
invariant-loop-i l = l.s ≡ splice l.initial.s l.at (win l.v 0 l.i)
