-- The rehearsal's run over lines of text: both buffers and the column of the rules through them, and the run of the machine beside the register that the lines tell.
use Rattle.machine.specs.declared.Command.{Command}
use Rattle.std.specs.Prelude.{◌≡◌, Bool, false, List, [], ◌∷◌, ◌++◌, ℕ, eqb, if◌then◌else◌, Option as Named, Some, None}
use Rattle.std.proofs.Math.Option.{Option, none, some}
use Rattle.machine.specs.Words.{word_of, READY}
use Rattle.machine.specs.State.{Value}
use Rattle.machine.specs.World.{Event, command, write, World, fresh_world, run, AllKept}
use Rattle.startup.specs.Start.{start_of}
use Rattle.numbered.specs.Commands.{command_of}
use Rattle.book.specs.Memory.{Memory}
use Rattle.book.specs.Book.{started, lines_in}
use Rattle.replies.specs.Replies.{replied}
use Rattle.lines.specs.Lines.{read_line}
use Rattle.lines.specs.declared.Line.{Line}
use Rattle.rehearsal.specs.Rehearsal.{said_of, turn}
use Rattle.rehearsed.specs.TwoValues.{broken_two}
use Rattle.rehearsed.specs.Column.{Promised}

abbrev pub Text : Type 0
Text = List ℕ

-- What the rehearsal does

-- the rule that is printed of a line, and both buffers after it
abbrev pub text_rule : Memory → Text → ℕ
text_rule p t = (said_of p.cache p.book t).rule

abbrev pub text_after : Memory → Text → Memory
text_after p t = record { cache = (turn p.cache p.book t).cache; book = (turn p.cache p.book t).book }

abbrev pub text_through : Memory → List Text → Memory
text_through p [] = p
text_through p (t ∷ ts) = text_through (text_after p t) ts

abbrev pub text_column : Memory → List Text → List ℕ
text_column p [] = []
text_column p (t ∷ ts) = text_rule p t ∷ text_column (text_after p t) ts

-- what is printed of them: an output line each, which ends in its rule
abbrev pub text_printed : Memory → List Text → List ℕ
text_printed p [] = []
text_printed p (t ∷ ts) =
    let s = said_of p.cache p.book t in
    replied (lines_in (text_after p t).book) s.word s.detail s.value (text_rule p t) ++ text_printed (text_after p t) ts

-- What the lines tell

-- after READY: a command with its value at its time, or a write of the register; a line that is UNREADABLE tells nothing, and so does an A line
abbrev pub command_told : ℕ → Named Command → Value → Option Event
command_told time (Some c) v = some (command time c v)
command_told time None v = none

abbrev pub line_told : Line → Value → Option Event
line_told Line.Unreadable v = none
line_told (Line.Start read_life write_life) v = none
line_told (Line.Write n k length) v = some (write n k v)
line_told (Line.Command number time a₁ a₂ a₃ a₄ length) v = command_told time (command_of number a₁ a₂ a₃ a₄) v

abbrev pub event_of : Text → Option Event
event_of t = line_told (read_line t).line (read_line t).value

abbrev pub before : Option Event → List Event → List Event
before none es = es
before (some e) es = e ∷ es

abbrev pub events_in : List Text → List Event
events_in [] = []
events_in (t ∷ ts) = before (event_of t) (events_in ts)

-- a run: the two lifetimes of its START, and the events after it
pub record Run : Type 0 where
  pub read_life : ℕ
  pub write_life : ℕ
  pub events : List Event

abbrev pub beginning : Run → World
beginning r = fresh_world r.read_life r.write_life

abbrev pub world_after : Run → World
world_after r = run (beginning r) r.events

-- START on the buffer x answers READY
abbrev pub ready : List ℕ → ℕ → ℕ → Bool
ready x read_life write_life = eqb (word_of (start_of x read_life write_life).answer) READY

-- with es after the line: an A line that answers READY begins the run, any other leaves it to the lines behind
abbrev pub begun_by : List ℕ → Line → List Event → Option Run → Option Run
begun_by x Line.Unreadable es later = later
begun_by x (Line.Start read_life write_life) es later =
    if ready x read_life write_life then some (record { read_life = read_life; write_life = write_life; events = es }) else later
begun_by x (Line.Write n k length) es later = later
begun_by x (Line.Command number time a₁ a₂ a₃ a₄ length) es later = later

-- the run that lines tell from the cache's buffer x; none before READY
abbrev pub run_of : List ℕ → List Text → Option Run
run_of x [] = none
run_of x (t ∷ ts) = begun_by x (read_line t).line (events_in ts) (run_of x ts)

-- What is said of them

-- the rule that an event breaks, rule 1 in its two-value form; 0 where nothing is told, and before READY
abbrev pub rule_by : World → Option Event → ℕ
rule_by w none = 0
rule_by w (some e) = broken_two w e

abbrev pub rule_in : Option Run → Option Event → ℕ
rule_in none o = 0
rule_in (some r) o = rule_by (world_after r) o

-- the clients' four rules, kept by the run
abbrev pub RulesKept : Option Run → Type 0
RulesKept none = Unit {0}
RulesKept (some r) = AllKept (beginning r) r.events

-- demand 3 at one moment: no A line has answered READY, or it holds in the run's world
abbrev pub PromisedIn : Memory → Option Run → Type 0
PromisedIn p none = started p.book ≡ false
PromisedIn p (some r) = Promised p (world_after r)
