-- The flag is the book's first byte.
use Rattle.book.specs.Book.{started}
use Rattle.std.proofs.Common.{refl}
use Rattle.book.proofs.started.Goals as goal

pub returns : goal.returns
unfolding started
returns c = refl
