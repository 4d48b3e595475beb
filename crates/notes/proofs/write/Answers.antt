-- What is no key is left alone; a key's note is written.
use Rattle.book.specs.Book.{with_registered}
use borrow.Author.Tests.{le-ltb, lt-ltb}
use Rattle.machine.specs.Sizes.{key_count}
use Rattle.notes.proofs.write.Goals as goal

pub returns-then-key-ge-KEYS_END : goal.returns-then-key-ge-KEYS_END
unfolding with_registered
returns-then-key-ge-KEYS_END c = rw (le-ltb _ key_count c.if-key-ge-KEYS_END.true)

pub returns : goal.returns
unfolding with_registered
returns c = rw (lt-ltb _ key_count c.if-key-ge-KEYS_END.false) c.put_note.ensures
