-- What is no key has the empty value; a key has its note.
use Rattle.book.specs.Book.{registered}
use mathlib.Core.Path.{sym}
use borrow.Author.Tests.{le-ltb, lt-ltb}
use Rattle.machine.specs.Sizes.{key_count}
use Rattle.notes.proofs.Notes.{same_empty}
use Rattle.notes.proofs.is_registered.Goals as goal

pub returns-then-key-ge-KEYS_END : goal.returns-then-key-ge-KEYS_END
unfolding registered
returns-then-key-ge-KEYS_END c = rw (le-ltb _ key_count c.if-key-ge-KEYS_END.true) (sym (same_empty _))

pub returns : goal.returns
unfolding registered
returns c = rw (lt-ltb _ key_count c.if-key-ge-KEYS_END.false) c.note_is.ensures
