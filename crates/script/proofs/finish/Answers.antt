-- `finish` meets its contract: where bytes are held they are a last line, and the end line stands behind its answer.
use mathlib.Core.Path.{sym}
use lib.Seq.{length-take-le}
use native.Mathlib.Omega.{arith}
use Rattle.script.proofs.Steps.{finish-none, finish_line}
use Rattle.script.proofs.Prints.{printed-length}
use Rattle.script.proofs.finish.Goals as goal

pub returns-then-held-eq0 : goal.returns-then-held-eq0
returns-then-held-eq0 c = finish-none _ _ _ _ _ _ _ c.if-held-eq0.true c.end.ensures

pub slice_bounds-answer-end : goal.slice_bounds-answer-end
slice_bounds-answer-end c = sym (length-take-le _ _ (omega (arith, c.requires.1.size, c.requires.1.most)))

pub end-requires-2 : goal.end-requires-2
end-requires-2 c =
    let answer = c.answer-put in
    let l = printed-length answer.ensures.delivered.printed in
    omega (arith, answer.ensures.upper_bound)

pub returns : goal.returns
returns c =
    let answer = c.answer-put in
    let if1 = c.if-held-eq0 in
    let pre = c.requires in
    finish_line _ _ _ _ _ pre.1 _ _ _ _ _ _ if1.false answer.ensures.delivered c.end-2.ensures
