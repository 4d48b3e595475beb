use Prim.Native.Nat.{◌≤◌, ◌-◌}
use mathlib.Core.Path.{◌≡◌}
use lib.ListN.{length, take}
use Rattle.machine.specs.State.{State}
use Rattle.machine.specs.Sizes.{state_size, session_count}
use Rattle.machine.specs.Session.{is_due}
use Rattle.machine.specs.Expiry.{those}
use Rattle.layout.specs.Holds.{Holds}
use Rattle.layout.proofs.Walked.{Walked}
use Rattle.sweep.specs.Lapsing.{end_due}
use Rattle.sweep.proofs.end_sessions.Given as goal

abbrev pub invariant-loop-i : goal.invariant-loop-i
invariant-loop-i l = (l.i ≤ session_count) × (length l.s ≡ state_size) × (length l.ns ≡ session_count) × (l.count ≤ l.i) × Walked (end_due l.time) l.i l.initial.s l.s × ((σ : State) → Holds l.initial.s σ → take l.count l.ns ≡ those (is_due l.time) (take l.i σ.sessions))

abbrev pub decreases-loop-i : goal.decreases-loop-i
decreases-loop-i l = session_count - l.i
