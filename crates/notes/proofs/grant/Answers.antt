-- What is no key is left alone; a key's first note is copied to its second.
use Rattle.book.specs.Book.{registered, with_granted}
use borrow.Author.Tests.{le-ltb, lt-ltb}
use Rattle.machine.specs.Sizes.{key_count}
use Rattle.notes.proofs.grant.Goals as goal

pub returns-then-key-ge-KEYS_END : goal.returns-then-key-ge-KEYS_END
unfolding with_granted registered
returns-then-key-ge-KEYS_END c = rw (le-ltb _ key_count c.if-key-ge-KEYS_END.true)

pub returns : goal.returns
unfolding with_granted registered
returns c = rw (lt-ltb _ key_count c.if-key-ge-KEYS_END.false) c.copy_note.ensures
