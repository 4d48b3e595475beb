use Prim.Native.Nat.{◌-◌, ◌≤◌}
use mathlib.Core.Path.{◌≡◌}
use lib.ListN.{length}
use Rattle.lent.specs.Bytes.{splice, win}
use Rattle.blocks.proofs.copy_down.Given as goal

abbrev pub invariant-loop-i : goal.invariant-loop-i
invariant-loop-i l = (l.i ≤ l.n) × ((length l.s ≡ length l.initial.s) × (l.s ≡ splice l.initial.s l.to (win l.initial.s l.from l.i)))

abbrev pub decreases-loop-i : goal.decreases-loop-i
decreases-loop-i l = l.n - l.i
