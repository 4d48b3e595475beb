-- The mark is four bytes at its place.
use Rattle.book.specs.Book.{with_mark}
use Rattle.book.proofs.set_mark.Goals as goal

pub returns : goal.returns
unfolding with_mark
returns c = c.store_u32.ensures
