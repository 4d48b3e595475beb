-- 01's worked example of the rehearsal: its twelve lines as text, and the events that they tell after START.
use Rattle.std.specs.Prelude.{List, [], ◌∷◌, ◌++◌}
use Rattle.machine.specs.State.{Value}
use Rattle.machine.specs.Examples.{example_read_life, example_write_life}
use Rattle.machine.specs.World.{Event, command, write}
use Rattle.machine.specs.declared.Command.TheVariants.{Begin, Get, Fill, Quar, Validate, Done}
use Rattle.replies.specs.Text.{ascii}
use Rattle.rehearsed.specs.Text.{Text, Run}

-- The lines

abbrev pub starting : Text
starting = ascii "A 1000 5000"

abbrev pub between : List Text
between =
    ascii "0 G 0 7"
    ∷ ascii "5 B"
    ∷ ascii "6 Q 1 7 1"
    ∷ ascii "8 F 1 7 6131"
    ∷ ascii "9 V 1 0"
    ∷ ascii "10 C 1 7 6232"
    ∷ ascii "11 G 0 7"
    ∷ ascii "12 X 1"
    ∷ ascii "13 G 0 7"
    ∷ ascii "14 F 2 7 6232"
    ∷ []

abbrev pub hitting : Text
hitting = ascii "15 G 0 7"

abbrev pub example : List Text
example = starting ∷ (between ++ (hitting ∷ []))

-- What the lines between START and the last tell, and all behind START

-- the bytes of 6131 and of 6232
abbrev pub first_value : Value
first_value = ascii "a1"

abbrev pub second_value : Value
second_value = ascii "b2"

abbrev pub events_between : List Event
events_between =
    command 0 (Get 0 7) []
    ∷ command 5 Begin []
    ∷ command 6 (Quar 1 7 1) []
    ∷ command 8 (Fill 1 7) first_value
    ∷ command 9 (Validate 1 0) []
    ∷ write 1 7 second_value
    ∷ command 11 (Get 0 7) []
    ∷ command 12 (Done 1) []
    ∷ command 13 (Get 0 7) []
    ∷ command 14 (Fill 2 7) second_value
    ∷ []

abbrev pub example_events : List Event
example_events = events_between ++ (command 15 (Get 0 7) [] ∷ [])

-- the run with these events behind the first line
abbrev pub run_from : List Event → Run
run_from es = record { read_life = example_read_life; write_life = example_write_life; events = es }
