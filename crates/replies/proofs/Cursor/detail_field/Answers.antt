-- `detail_field` meets its contract: the space stands behind the detail.
use native.Mathlib.Omega.{arith}
use Rattle.replies.proofs.Lines.{put_then, detail_most}
use Rattle.replies.proofs.Cursor.detail_field.Goals as goal

pub byte-requires : goal.byte-requires
byte-requires c =
    let args = c.args in
    let pre = c.requires in
    omega (arith, detail_most args.word args.detail args.value.now pre.1)

pub returns : goal.returns
returns c =
    let details = c.details in
    let args = c.args in
    let pre = c.requires in
    put_then details.ensures c.byte.ensures (omega (arith, detail_most args.word args.detail args.value.now pre.1))
