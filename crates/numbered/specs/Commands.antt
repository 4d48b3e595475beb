-- Commands by number, for callers that have no enum: a command's number is its place in the document's list, and its own numbers stand in their
-- order.
use Rattle.std.specs.Prelude.{ℕ, List, eqb, ltb, if◌then◌else◌, Option, Some, None}
use Rattle.machine.specs.Sizes.{time_max}
use Rattle.machine.specs.Words.{STATE, CLOCK, ARG}
use Rattle.machine.specs.State.{Value}
use Rattle.machine.specs.declared.Answer.{Answer}
use Rattle.machine.specs.declared.Command.{Command}
use Rattle.layout.specs.Layout.{decode}
use Rattle.layout.specs.WellFormed.{well_formed}
use Rattle.startup.specs.Start.{Reply}
use Rattle.cache.specs.Run.{ran}

abbrev pub command_of : ℕ → ℕ → ℕ → ℕ → ℕ → Option Command
command_of number a b c d =
    if eqb number 1 then Some Command.Begin
    else if eqb number 2 then Some (Command.Get a b)
    else if eqb number 3 then Some (Command.Fill a b)
    else if eqb number 4 then Some (Command.Quar a b c)
    else if eqb number 5 then Some (Command.Stage a b c)
    else if eqb number 6 then Some (Command.Delta a b c d)
    else if eqb number 7 then Some (Command.Validate a b)
    else if eqb number 8 then Some (Command.Done a)
    else if eqb number 9 then Some (Command.Undo a)
    else if eqb number 10 then Some (Command.Evict a)
    else if eqb number 11 then Some Command.Tick
    else None

-- a number outside the list is refused as ARG, after STATE and CLOCK
unfoldable pub unknown : List ℕ → ℕ → Answer
unknown b now =
    if well_formed b
    then (if ltb now (decode b).head.clock then Answer.Refused CLOCK else if ltb time_max now then Answer.Refused CLOCK else Answer.Refused ARG)
    else Answer.Refused STATE

abbrev pub ran_by : List ℕ → ℕ → Value → Option Command → Reply
ran_by b now v (Some c) = ran b now c v
ran_by b now v None = record { answer = unknown b now; bytes = b }
