use Prim.Native.Nat.{◌≤◌}
use mathlib.Core.Path.{◌≡◌}
use lib.ListN.{drop}
use Rattle.machine.specs.Sizes.{row_count}
use Rattle.machine.specs.State.{State}
use Rattle.machine.specs.Effects.{life_end, latest}
use Rattle.layout.specs.Holds.{Holds}
use Rattle.waits.proofs.latest.Given as goal

abbrev pub invariant-loop-i : goal.invariant-loop-i
invariant-loop-i l = (l.i ≤ row_count) × ((σ : State) → Holds l.s σ → life_end l.life ≡ latest σ l.k (drop l.i σ.rows))
