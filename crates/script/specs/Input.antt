-- A rehearsal of an input, by the library's definitions of a line and of the end.
use Rattle.std.specs.Prelude.{ℕ, List, [], ◌∷◌, ◌++◌, eqb, length, if◌then◌else◌}
use Rattle.feed.specs.Lines.{cut_lines}
use Rattle.feed.specs.Answers.{Answered, Open, behind, answers, last, fed}
use Rattle.book.specs.Memory.{Memory, memory_of}
use Rattle.book.specs.Book.{book_size, lines_in, broken_in}
use Rattle.replies.specs.Replies as replies
use Rattle.rehearsal.specs.Rehearsal.{Turn, turn}

-- what a line leaves and its text
abbrev pub as_answer : Turn → Answered Memory
as_answer t = record { world = memory_of t.cache t.book; text = t.text }

-- a line and its output line; where the book has not its size there is no text
unfoldable pub answer_line : Memory → List ℕ → Answered Memory
answer_line w l = if eqb (length w.book) book_size then as_answer (turn w.cache w.book l) else record { world = w; text = [] }

-- the end line of a book
unfoldable pub end_line : List ℕ → List ℕ
end_line b = if eqb (length b) book_size then replies.ended (lines_in b) (broken_in b) else []

-- the end line behind the last answer
abbrev pub closed : Answered Memory → Answered Memory
closed s = record { world = s.world; text = s.text ++ end_line s.world.book }

-- the end of the input, where the bytes `held` came since the last newline
unfoldable pub finished : Memory → List ℕ → Answered Memory
finished w held = closed (last answer_line w held)

-- a whole input: an output line for each of its lines, and the end line
unfoldable pub rehearsed : Memory → List ℕ → Answered Memory
rehearsed w input = closed (answers answer_line w (cut_lines input))

-- an input that comes in chunks: nothing has been read, the chunks in turn, and all of them
abbrev pub nothing_read : Memory → Open Memory
nothing_read w = record { world = w; held = [] }

unfoldable pub chunks : Open Memory → List (List ℕ) → Answered (Open Memory)
chunks o [] = record { world = o; text = [] }
chunks o (c ∷ cs) = let s = fed answer_line o c in behind s.text (chunks s.world cs)

abbrev pub joined : List (List ℕ) → List ℕ
joined [] = []
joined (c ∷ cs) = c ++ joined cs
