-- `step` meets its contract: by what `push` says of the byte, it is held or ends a line, and that line is answered.
use mathlib.Core.Path.{sym, ◌∙◌}
use lib.Seq.{length-take-le}
use Rattle.script.proofs.Steps.{step_held, step_line, line_within}
use Rattle.script.proofs.step.Goals as goal

pub slice_bounds-answer-end : goal.slice_bounds-answer-end
slice_bounds-answer-end c =
    let taken2 = c.in-Line in
    let push = c.push-taken in
    let pre = c.requires in
    line_within _ _ _ _ pre.1 push.ensures.1 _ (sym push.ensures.0 ∙ taken2.is)

pub slice_bounds-answer-end-in-Line : goal.slice_bounds-answer-end-in-Line
slice_bounds-answer-end-in-Line c =
    let taken2 = c.in-Line in
    let push = c.push-taken in
    let pre = c.requires in
    sym (length-take-le _ _ (line_within _ _ _ _ pre.1 push.ensures.1 _ (sym push.ensures.0 ∙ taken2.is)))

pub returns-in-Held : goal.returns-in-Held
returns-in-Held c =
    let push = c.push-taken in
    let pre = c.requires in
    let p = step_held _ _ _ _ _ _ _ _ pre.1 push.ensures.1 _ pre.0 (sym push.ensures.0 ∙ c.in-Held.is) in
    record { delivered = p.0; held_fits = p.1.0; held_after = p.1.1 }

pub returns-in-Line : goal.returns-in-Line
returns-in-Line c =
    let answer = c.answer-next in
    let taken2 = c.in-Line in
    let push = c.push-taken in
    let pre = c.requires in
    let p = step_line _ _ _ _ _ _ _ _ pre.1 push.ensures.1 _ _ _ _ _ (sym push.ensures.0 ∙ taken2.is) answer.ensures.delivered in
    record { delivered = p.0; held_fits = p.1.0; held_after = p.1.1 }
