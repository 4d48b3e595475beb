use Prim.Native.Nat.{◌≤◌, ◌-◌}
use mathlib.Core.Path.{◌≡◌}
use lib.ListN.{length}
use Rattle.machine.specs.Sizes.{state_size, key_count}
use Rattle.layout.proofs.Walked.{Walked}
use Rattle.sweep.specs.Lapsing.{lapse_key}
use Rattle.sweep.proofs.lapse_leases.Given as goal

abbrev pub invariant-loop-k : goal.invariant-loop-k
invariant-loop-k l = (l.k ≤ key_count) × (length l.s ≡ state_size) × Walked (lapse_key l.time) l.k l.initial.s l.s

abbrev pub decreases-loop-k : goal.decreases-loop-k
decreases-loop-k l = key_count - l.k
