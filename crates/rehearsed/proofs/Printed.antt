-- What the program prints is what these theorems speak of: where the book has its size, the answers to lines leave the buffers of `text_through` and print a line each
-- with the rule of `text_column`. Each answer is one turn, and a turn keeps the book's size.
use mathlib.Core.Path.{◌≡◌, refl, ap, ◌∙◌}
use mathlib.Core.List.{List, [], ◌∷◌}
use Prim.Native.Nat.{ℕ}
use lib.ListN.{length}
use borrow.Author.Tests.{eq-eqb}
use Rattle.feed.specs.Lines.{lines_of}
use Rattle.feed.specs.Answers.{answers}
use Rattle.book.specs.Memory.{Memory}
use Rattle.book.specs.Book.{book_size}
use Rattle.rehearsal.specs.Rehearsal.{turn}
use Rattle.script.specs.Input.{answer_line, closed, rehearsed}
use Rattle.script.proofs.Whole.{rehearsed_uncut}
use Rattle.rehearsed.specs.Text.{Text, text_after, text_through, text_printed}
use Rattle.rehearsed.proofs.Text.{sized_text}

pub answers-printed : (p : Memory) → length p.book ≡ book_size → (ts : List Text) → answers answer_line p ts ≡ record { world = text_through p ts; text = text_printed p ts }
unfolding answers answer_line turn
answers-printed p h [] = refl
answers-printed p h (t ∷ ts) = rw (eq-eqb (length p.book) book_size h, answers-printed (text_after p t) (sized_text p h t) ts)

pub rehearsed-printed : (p : Memory) → length p.book ≡ book_size → (input : List ℕ)
    → rehearsed p input ≡ closed (record { world = text_through p (lines_of input); text = text_printed p (lines_of input) })
rehearsed-printed p h input = rehearsed_uncut p input ∙ ap closed (answers-printed p h (lines_of input))
