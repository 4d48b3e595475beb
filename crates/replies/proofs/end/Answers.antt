-- `end` meets its contract: the three fields stand one behind the other.
use mathlib.Core.Path.{refl, sym}
use Rattle.replies.proofs.Lines.{put_front, end_put, number_most}
use native.Mathlib.Omega.{arith}
use borrow.Author.Rules.{rules}
use Rattle.lent.specs.Text.{space}
use Rattle.replies.proofs.end.Goals as goal

pub number-requires-2 : goal.number-requires-2
number-requires-2 c = omega (arith, number_most c.args.lines space)

pub returns : goal.returns
returns c =
    let p = end_put c.args.lines c.args.broken c.requires c.text.ensures c.number.ensures c.number-2.ensures in
    let same = sym p.same in
    put_front p refl (search rules)
