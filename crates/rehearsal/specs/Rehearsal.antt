-- The rehearsal: the cache beside a model of the register, one line at a time. What is printed of a line, and the cache's bytes and the book after it.
use Rattle.machine.specs.declared.Command.{Command}
use Rattle.std.specs.Prelude.{ℕ, Bool, ◌&&◌, List, [], ◌≡◌, eqb, leb, length, if◌then◌else◌, Option, Some, None}
use Rattle.lent.specs.Bytes.{splice}
use Rattle.machine.specs.State.{Value}
use Rattle.numbered.specs.Commands.{command_of}
use Rattle.book.specs.Book.{book_size, started, lines_in, broken_in, counted}
use Rattle.rules.specs.Rules.{Said, unreadable, begins, commands}
use Rattle.writes.specs.Writes.{writes}
use Rattle.lines.specs.Lines.{read_line}
use Rattle.lines.specs.declared.Line.{Line}
use Rattle.replies.specs.Replies.{line_room, replied, ended}

-- "until an A line has answered READY each line that isn't an A line, and after it each A line" is UNREADABLE

abbrev pub command_said : List ℕ → List ℕ → ℕ → Option Command → Value → Said
command_said x b time (Some c) v = commands x b time c v
command_said x b time None v = unreadable x b

abbrev pub commanded : List ℕ → List ℕ → ℕ → Option Command → Value → Said
commanded x b time c v = if started b then command_said x b time c v else unreadable x b

unfoldable pub acted : List ℕ → List ℕ → Line → Value → Said
acted x b Line.Unreadable v = unreadable x b
acted x b (Line.Start read_life write_life) v = if started b then unreadable x b else begins x b read_life write_life
acted x b (Line.Write n k length) v = if started b then writes x b n k v else unreadable x b
acted x b (Line.Command number time a₁ a₂ a₃ a₄ length) v = commanded x b time (command_of number a₁ a₂ a₃ a₄) v

-- what is said of the line t
unfoldable pub said_of : List ℕ → List ℕ → List ℕ → Said
said_of x b t = acted x b (read_line t).line (read_line t).value

-- the output line, and both buffers after it: the line is counted
pub record Turn : Type 0 where
  pub text : List ℕ
  pub cache : List ℕ
  pub book : List ℕ

abbrev pub turn_of : Said → Turn
turn_of s = let b = counted s.book s.rule in record { text = replied (lines_in b) s.word s.detail s.value s.rule; cache = s.cache; book = b }

unfoldable pub turn : List ℕ → List ℕ → List ℕ → Turn
turn x b t = turn_of (said_of x b t)

-- a book of its size, and room for an output line
abbrev pub lent_right : List ℕ → List ℕ → Bool
lent_right b out = eqb (length b) book_size && leb line_room (length out)

-- what is left of the three lent buffers, and the length of the text at the front of the last; where they are not lent right nothing is done
pub record Left : Type 0 where
  pub length : ℕ
  pub cache : List ℕ
  pub book : List ℕ
  pub out : List ℕ

abbrev pub wrote : Turn → List ℕ → Left
wrote r out = record { length = length r.text; cache = r.cache; book = r.book; out = splice out 0 r.text }

unfoldable pub line_of : List ℕ → List ℕ → List ℕ → List ℕ → Left
line_of x b t out = if lent_right b out then wrote (turn x b t) out else record { length = 0; cache = x; book = b; out = out }

-- the end line
unfoldable pub end_of : List ℕ → List ℕ → Left
end_of b out = if lent_right b out then wrote (record { text = ended (lines_in b) (broken_in b); cache = []; book = b }) out else record { length = 0; cache = []; book = b; out = out }

-- r and the three buffers are what is left
pub record Leaves (l : Left) (r : ℕ) (x b o : List ℕ) : Type 0 where
  pub length : r ≡ l.length
  pub cache : x ≡ l.cache
  pub book : b ≡ l.book
  pub out : o ≡ l.out
