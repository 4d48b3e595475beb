-- The cache on a lent buffer: refused with STATE where it is not well formed, else the machine's answer and the encoding of its next state.
use Rattle.std.specs.Prelude.{ℕ, List, if◌then◌else◌}
use Rattle.machine.specs.Words.{STATE}
use Rattle.machine.specs.State.{Value}
use Rattle.machine.specs.Effects.{Outcome}
use Rattle.machine.specs.Step.{step}
use Rattle.machine.specs.declared.Answer.{Answer}
use Rattle.machine.specs.declared.Command.{Command}
use Rattle.layout.specs.Layout.{encode, decode}
use Rattle.layout.specs.WellFormed.{well_formed}
use Rattle.startup.specs.Start.{Reply}

abbrev pub encoded : Outcome → Reply
encoded o = record { answer = o.answer; bytes = encode o.after }

unfoldable pub ran : List ℕ → ℕ → Command → Value → Reply
ran b now c v = if well_formed b then encoded (step (decode b) now c v) else record { answer = Answer.Refused STATE; bytes = b }
