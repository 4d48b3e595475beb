-- The length is written, and behind it the bytes of a note that lies before it.
use borrow.Author.Rules.{rules}
use Rattle.notes.proofs.Notes.{note_copied}
use Rattle.notes.proofs.copy_note.Goals as goal

pub returns : goal.returns
returns c =
    let store-u8 = c.store_u8 in
    let note-length = c.note_length-n in
    let args = c.args in
    let pre = c.requires in
    note_copied args.b.now args.i args.j _ _ _ (search rules) pre.0 pre.1 note-length.ensures.0 store-u8.ensures
    c.copy_within.ensures
