use mathlib.Core.Path.{◌≡◌}
use mathlib.Core.Bool.{true}
use Prim.Native.Nat.{◌-◌, ◌≤◌}
use Rattle.machine.specs.Sizes.{key_count}
use Rattle.machine.specs.Sound.{distinct}
use Rattle.order.specs.Order.{item}
use Rattle.joins.specs.Joins.{Chained}
use Rattle.joins.proofs.not_told_apart.Given as goal

abbrev pub invariant-loop-k : goal.invariant-loop-k
invariant-loop-k l = (l.k ≤ key_count) × (Chained l.nums l.k l.heads l.next × (distinct (item l.nums) l.k ≡ true))

abbrev pub decreases-loop-k : goal.decreases-loop-k
decreases-loop-k l = key_count - l.k
