-- The length and the bytes of the value are written one behind the other.
use Rattle.book.specs.Book.{with_note}
use mathlib.Core.Path.{refl}
use mathlib.Core.List.{[], ◌∷◌}
use lib.ListN.{length}
use Rattle.lent.proofs.Splice.{splice_then}
use borrow.Author.Rules.{rules}
use Rattle.notes.proofs.put_note.Goals as goal

pub returns : goal.returns
unfolding with_note
returns c =
    let store-u8 = c.store_u8 in
    let args = c.args in
    splice_then args.b.now _ _ (length args.v.now ∷ []) args.v.now _ 1 store-u8.ensures c.copy_in.ensures refl (search rules)
