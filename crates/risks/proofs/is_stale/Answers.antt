-- The row's session, its mark, its key and its value's bytes are those of the row that the bytes hold.
use mathlib.Core.Path.{◌≡◌, sym, ap, ◌∙◌}
use mathlib.Core.Bool.{not}
use Rattle.lent.specs.Bytes.{win}
use Rattle.lent.specs.Tables.{same}
use Rattle.lent.proofs.Splice.{part_win}
use Rattle.machine.specs.Sizes.{staged_at}
use Rattle.book.specs.Book.{registered}
use Rattle.risks.proofs.Stale.{differs_row}
use Rattle.risks.proofs.is_stale.Goals as goal

pub returns : goal.returns
returns c =
    let staged-length = c.staged_length in
    let key = c.key-key in
    let mark = c.mark in
    let session = c.session in
    let args = c.args in
    let register = registered args.book.now in
    let value = win args.cache.now (staged_at args.i) staged-length.result in
    let t : c.is_registered.result ≡ same value (register key.result) =
    c.is_registered.ensures ∙ rw (part_win args.cache.now (staged_at args.i) staged-length.result) in
    λ σ h. ap not t
    ∙ sym (differs_row register args.session h args.i c.requires staged-length.result key.result
    (sym (c.from.ensures ∙ session.ensures σ h) ∙ c.if-from-session.false) (sym (mark.ensures σ h) ∙ c.if-mark-ne-VALUED.false)
    (staged-length.ensures.0 σ h) (key.ensures.0 σ h))
