-- The count is eight bytes at its place.
use Rattle.book.specs.Book.{broken_in}
use Rattle.book.proofs.broken.Goals as goal

pub returns : goal.returns
unfolding broken_in
returns c = c.load_u64.ensures
