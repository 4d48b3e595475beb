-- `number_at` meets its contract: the field is what stands up to its end, and the rest starts behind it (`number_cut` of `Saying`).
use Rattle.std.proofs.Common.{◌∙◌}
use Rattle.lines.proofs.Saying.{number_cut}
use Rattle.lines.proofs.number_at.Goals as goal

pub returns-in_err-n : goal.returns-in_err-n
returns-in_err-n c =
    let a = c.args in
    let field-end = c.field_end-e in
    rw (c.if-not-wanted.false, c.from_residual.ensures)
    (number_cut a.line.now a.at field-end.result c.count.result field-end.ensures c.count.ensures ∙ rw c.in_err-n.was)

pub returns : goal.returns
returns c =
    let a = c.args in
    let field-end = c.field_end-e in
    rw c.if-not-wanted.false
    (number_cut a.line.now a.at field-end.result c.count.result field-end.ensures c.count.ensures ∙ rw c.in_ok-n.was)
