-- What is said of a line as its numbers, and its printing.
use Rattle.std.specs.Prelude.{ℕ, ◌+◌, ◌≤◌, List, [], ◌≡◌, eqb, length, if◌then◌else◌}
use Rattle.lent.specs.Bytes.{win, splice}
use Rattle.machine.specs.Sizes.{value_max}
use Rattle.machine.specs.Words.{HIT}
use Rattle.machine.specs.State.{Value}
use Rattle.book.specs.Book.{lines_in, counted}
use Rattle.rules.specs.declared.Said.{Said}
use Rattle.replies.specs.Replies.{UNREADABLE, replied}

abbrev pub not_read : Said
not_read = record { word = UNREADABLE; detail = 0; at = 0; rule = 0 }

-- a HIT's value stands within the cache's bytes x
pub record Within (r : Said) (x : List ℕ) : Type 0 where
  pub inside : r.word ≡ HIT → r.at + r.detail ≤ length x
  pub short : r.word ≡ HIT → r.detail ≤ value_max

abbrev pub handed : Said → List ℕ → Value
handed r x = if eqb r.word HIT then win x r.at r.detail else []

-- the text of a line of which r is said, the counted book being b
abbrev pub text_of : Said → List ℕ → List ℕ → List ℕ
text_of r x b = replied (lines_in b) r.word r.detail (handed r x) r.rule

-- the line is counted in the book b, and its text of length n stands at the front of o
pub record Prints (r : Said) (x b o : List ℕ) (n : ℕ) (b' o' : List ℕ) : Type 0 where
  pub book : b' ≡ counted b r.rule
  pub size : n ≡ length (text_of r x b')
  pub out : o' ≡ splice o 0 (text_of r x b')
