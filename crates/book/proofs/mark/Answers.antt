-- The mark is four bytes at its place.
use Rattle.book.specs.Book.{mark}
use Rattle.book.proofs.mark.Goals as goal

pub returns : goal.returns
unfolding mark
returns c = c.load_u32.ensures
