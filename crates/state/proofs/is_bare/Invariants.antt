use Prim.Native.Nat.{◌+◌, ◌-◌, ◌≤◌}
use mathlib.Core.Path.{◌≡◌}
use lib.Dec.{eqb}
use Rattle.lent.specs.Bytes.{win}
use Rattle.lent.specs.Tables.{all_zero}
use Rattle.machine.specs.Sizes.{value_max}
use Rattle.state.proofs.is_bare.Given as goal

abbrev pub invariant-loop-i : goal.invariant-loop-i
invariant-loop-i l = (l.i ≤ value_max) × (eqb l.seen 0 ≡ all_zero (win l.r (l.at + l.n) (l.i - l.n)))

abbrev pub decreases-loop-i : goal.decreases-loop-i
decreases-loop-i l = value_max - l.i
