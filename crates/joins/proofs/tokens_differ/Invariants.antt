use Prim.Native.Nat.{◌-◌, ◌≤◌}
use Rattle.machine.specs.Sizes.{key_count}
use Rattle.joins.specs.Joins.{tokens, Gathered}
use Rattle.joins.proofs.tokens_differ.Given as goal

abbrev pub invariant-loop-k : goal.invariant-loop-k
invariant-loop-k l = (l.k ≤ key_count) × Gathered (tokens l.s) l.k l.nums

abbrev pub decreases-loop-k : goal.decreases-loop-k
decreases-loop-k l = key_count - l.k
