-- The note is the part of the book that is lent, and it is compared with v.
use Rattle.book.specs.Book.{note}
use mathlib.Core.Path.{◌∙◌}
use Rattle.lent.proofs.Splice.{part_win}
use Rattle.notes.proofs.note_is.Goals as goal

pub returns : goal.returns
unfolding note
returns c = c.same.ensures ∙ rw (part_win _ _ _, c.note_length-n.ensures.0)
