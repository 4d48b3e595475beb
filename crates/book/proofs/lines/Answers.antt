-- The count is eight bytes at its place.
use Rattle.book.specs.Book.{lines_in}
use Rattle.book.proofs.lines.Goals as goal

pub returns : goal.returns
unfolding lines_in
returns c = c.load_u64.ensures
