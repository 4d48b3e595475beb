-- What a line of the rehearsal says. 01, "The rehearsal": "Letters in the order above, without SHOW: B, G, F, Q, S, D, V, X (DONE), U, E, T; `C s k v` is a register write; `A r w` (no time) starts."
-- Whether an A line comes first and once is not decided here.
use Rattle.std.specs.Prelude.{ℕ, ◌-◌, true, false, ◌≡◌, List, [], length, eqb, ltb, if◌then◌else◌, Some, None, Option as ProgramOption}
use Rattle.std.proofs.Math.Option.{Option, none, some}
use Rattle.lent.specs.Bytes.{splice}
use Rattle.machine.specs.Sizes.{key_count}
pub use Rattle.machine.specs.Sizes.{value_max}
use Rattle.lines.specs.Fields.{line_max, Field, fields, ◌>>=◌, number, numbers, Lettered, letter, at_end, last_value, ending}
use Rattle.lines.specs.declared.Line.{Line}
use Rattle.lines.specs.declared.Shape.{Shape}

-- what is read: the line, and the bytes of the value that it carries
pub record Read : Type 0 where
  pub line : Line
  pub value : List ℕ

-- a line that carries no value
abbrev pub unvalued : Line → Read
unvalued l = record { line = l; value = [] }

abbrev pub or_unreadable : Option Read → Read
or_unreadable (some r) = r
or_unreadable none = unvalued Line.Unreadable

-- what the code's answers say: the line, if one is read, and one that carries no value
abbrev pub line_in : Option Read → ProgramOption Line
line_in (some r) = Some r.line
line_in none = None

abbrev pub unvalued_any : ProgramOption Line → Option Read
unvalued_any (Some l) = some (unvalued l)
unvalued_any None = none

-- a letter's command, by its place in the document's list, how many numbers follow it, and whether a value does
unfoldable pub shape_of : ℕ → ProgramOption Shape
shape_of l =
    if eqb l 66 then Some (record { number = 1; numbers = 0; valued = false })  -- B
    else if eqb l 71 then Some (record { number = 2; numbers = 2; valued = false })  -- G session key
    else if eqb l 70 then Some (record { number = 3; numbers = 2; valued = true })  -- F token key value
    else if eqb l 81 then Some (record { number = 4; numbers = 3; valued = false })  -- Q session key kind
    else if eqb l 83 then Some (record { number = 5; numbers = 3; valued = true })  -- S session step key value
    else if eqb l 68 then Some (record { number = 6; numbers = 4; valued = true })  -- D session step key operation operand
    else if eqb l 86 then Some (record { number = 7; numbers = 2; valued = false })  -- V session n
    else if eqb l 88 then Some (record { number = 8; numbers = 1; valued = false })  -- X session
    else if eqb l 85 then Some (record { number = 9; numbers = 1; valued = false })  -- U session
    else if eqb l 69 then Some (record { number = 10; numbers = 1; valued = false })  -- E key
    else if eqb l 84 then Some (record { number = 11; numbers = 0; valued = false })  -- T
    else None

-- what follows a command's letter: its numbers, the value if it has one, and nothing else
unfoldable pub command_line : ℕ → ProgramOption Shape → List Field → Option Read
command_line time (Some s) fs =
    numbers s.numbers fs >>= λ n.
    ending s.valued n.rest >>= λ v.
    some (record { line = Line.Command s.number time n.a n.b n.c n.d (length v); value = v })
command_line time None fs = none

-- `A` and `C`
abbrev pub start_letter : ℕ
start_letter = 65

abbrev pub write_letter : ℕ
write_letter = 67

-- the largest key
abbrev pub key_max : ℕ
key_max = key_count - 1

-- `A r w`, behind the letter
unfoldable pub start_line : List Field → Option Read
start_line fs = numbers 2 fs >>= λ n. at_end n.rest (unvalued (Line.Start n.a n.b))

-- `C s k v`, behind the letter
unfoldable pub write_line : List Field → Option Read
write_line fs =
    numbers 2 fs >>= λ n.
    if ltb key_max n.b then none
    else last_value value_max n.rest >>= λ v. some (record { line = Line.Write n.a n.b (length v); value = v })

-- time, letter, fields
unfoldable pub timed_line : List Field → Option Read
timed_line fs =
    number true fs >>= λ t.
    letter t.rest >>= λ l.
    if eqb l.letter write_letter then write_line l.rest else command_line t.number (shape_of l.letter) l.rest

-- the letter A comes first, and any other behind a time
abbrev pub line_by : Option Lettered → List Field → Option Read
line_by (some l) fs = if eqb l.letter start_letter then start_line l.rest else timed_line fs
line_by none fs = timed_line fs

unfoldable pub read_line : List ℕ → Read
read_line t =
    if ltb line_max (length t) then unvalued Line.Unreadable
    else or_unreadable (line_by (letter (fields t)) (fields t))

-- the answer is the line, and the buffer has the value at its front
pub record Gives (x : Read) (r : Line) (before after : List ℕ) : Type 0 where
  pub line : r ≡ x.line
  pub value : after ≡ splice before 0 x.value

-- the same where a line may not be read
pub record GivesAny (o : Option Read) (r : ProgramOption Line) (before after : List ℕ) : Type 0 where
  pub line : r ≡ line_in o
  pub value : after ≡ splice before 0 (or_unreadable o).value
