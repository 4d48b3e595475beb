-- `answer` prints the library's output line: it stands at the front of the part that is lent for it, and fits it.
use native.Mathlib.Omega.{arith}
use Rattle.script.proofs.Library.{line_delivered}
use borrow.Author.Rules.{rules}
use Rattle.script.proofs.answer.Goals as goal

pub overflow_add-result : goal.overflow_add-result
overflow_add-result c =
    let line = c.line-n in
    let pre = c.requires in
    let p = line_delivered _ _ _ pre _ _ (search rules) _ _ _ _ line.ensures in
    omega (arith, pre, p.1)

pub returns : goal.returns
returns c =
    let line = c.line-n in
    let pre = c.requires in
    let p = line_delivered _ _ _ pre _ _ (search rules) _ _ _ _ line.ensures in
    record { delivered = p.0; upper_bound = omega (arith, p.1) }
