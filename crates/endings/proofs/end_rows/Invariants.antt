use Prim.Native.Nat.{◌≤◌, ◌-◌}
use mathlib.Core.Path.{◌≡◌}
use lib.ListN.{length}
use Rattle.machine.specs.Sizes.{state_size, row_count}
use Rattle.layout.proofs.Walked.{Walked}
use Rattle.endings.specs.Ends.{end_row}
use Rattle.endings.proofs.end_rows.Given as goal

abbrev pub invariant-loop-i : goal.invariant-loop-i
invariant-loop-i l = (l.i ≤ row_count) × (length l.s ≡ state_size) × Walked (end_row l.ending l.ns) l.i l.initial.s l.s

abbrev pub decreases-loop-i : goal.decreases-loop-i
decreases-loop-i l = row_count - l.i
