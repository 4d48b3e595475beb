-- `reply` meets its contract: the four fields stand one behind the other, and no line is longer than its room.
use mathlib.Core.Path.{refl, sym}
use native.Mathlib.Omega.{arith}
use Rattle.replies.specs.Replies.{name_of, detailed}
use Rattle.replies.proofs.Names.{name_most}
use Rattle.replies.proofs.Lines.{put_front, reply_put, number_most, detail_most, field-length}
use borrow.Author.Rules.{rules}
use Rattle.lent.specs.Text.{space}
use Rattle.replies.proofs.reply.Goals as goal

pub name-requires : goal.name-requires
name-requires c = omega (arith, number_most c.args.line space)

pub detail_field-requires : goal.detail_field-requires
detail_field-requires c =
    let a = c.args in
    (omega (arith, number_most a.line space, field-length (name_of a.word) space, name_most a.word), search rules)

pub number-requires-2 : goal.number-requires-2
number-requires-2 c =
    let a = c.args in
    let n = a.value.now in
    let short = c.requires.1 in
    omega (arith, number_most a.line space, field-length (name_of a.word) space, name_most a.word, field-length (detailed a.word a.detail n) space, detail_most a.word a.detail n short)

pub returns : goal.returns
returns c =
    let a = c.args in
    let pre = c.requires in
    let p = reply_put a.line a.word a.detail a.value.now a.rule pre.0 pre.1 c.number.ensures c.name.ensures c.detail_field.ensures c.number-2.ensures in
    let same = sym p.same in
    put_front p refl (search rules)
