-- An outcome that is told is given by its answer and by bytes that hold its state.
use mathlib.Core.Path.{◌≡◌, refl}
use mathlib.Core.List.{List}
use Prim.Native.Nat.{ℕ}
use Rattle.machine.specs.State.{State}
use Rattle.machine.specs.Effects.{Outcome, told}
use Rattle.machine.specs.declared.Answer.{Answer}
use Rattle.layout.specs.Holds.{Holds}
use Rattle.outcome.specs.Outcome.{Gives}

pub gives : {o : Outcome} {a : Answer} {t : State} {b : List ℕ} → o ≡ told a t → Holds b t → Gives o a b
gives e h = rw e (record { answer = refl; holds = h })
