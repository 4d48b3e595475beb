-- The rehearsal on buffers of zeros, a run that breaks each rule, and one whose register holds a third value between a grant and its FILL.
use Rattle.std.specs.Prelude.{List, [], ◌∷◌}
use Rattle.lent.specs.Bytes.{zeros}
use Rattle.machine.specs.Sizes.{state_size}
use Rattle.machine.specs.State.{Value}
use Rattle.machine.specs.World.{Event, command, write, World, fresh_world}
use Rattle.machine.specs.declared.Command.TheVariants.{Begin, Get, Fill, Quar, Stage, Validate, Done, Undo}
use Rattle.book.specs.Memory.{Memory}
use Rattle.book.specs.Book.{book_size}
use Rattle.replies.specs.Text.{ascii}
use Rattle.rehearsed.specs.Column.{started_memory}
use Rattle.machine.specs.Examples.{example_read_life, example_write_life}

-- after START, both buffers and the world of the machine
abbrev pub begun_memory : Memory
begun_memory = started_memory (zeros state_size) (zeros book_size) example_read_life example_write_life

abbrev pub begun_world : World
begun_world = fresh_world example_read_life example_write_life

abbrev pub old : Value
old = ascii "old"

abbrev pub new : Value
new = ascii "new"

-- a FILL of what the register never held, a write for nobody, a DONE that caches another value, an UNDO after a write
abbrev pub breaks : List Event
breaks =
    command 0 (Get 0 7) []
    ∷ command 1 (Fill 1 7) old
    ∷ write 5 7 old
    ∷ command 3 Begin []
    ∷ command 4 (Quar 1 9 2) []
    ∷ command 5 (Stage 1 0 9) new
    ∷ command 6 (Validate 1 1) []
    ∷ write 1 9 old
    ∷ command 7 (Done 1) []
    ∷ command 8 Begin []
    ∷ write 2 9 new
    ∷ command 9 (Undo 2) []
    ∷ []

-- both writes break rule 2, and the FILL has the value between them
abbrev pub third : List Event
third = command 0 (Get 0 7) [] ∷ write 5 7 old ∷ write 5 7 new ∷ command 1 (Fill 1 7) old ∷ []
