-- The flag is the book's first byte.
use Rattle.book.specs.Book.{with_started}
use Rattle.book.proofs.set_started.Goals as goal

pub returns : goal.returns
unfolding with_started
returns c = c.store_u8.ensures
