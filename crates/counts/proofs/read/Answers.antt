-- `read` meets its contract: a length outside 1 to 20 is no count, and each turn of the loop leaves to be read what stands behind the digits
-- passed (`read_turn` of `Reading`).
use Rattle.std.proofs.Common.{rules, sym, refl, ◌∙◌, arith}
use Rattle.counts.proofs.Reading.{read_empty, read_long, read_start, read_turn, read_end}
use Rattle.counts.proofs.read.Goals as goal

pub returns-then-not-contains : goal.returns-then-not-contains
returns-then-not-contains c = grind (arith, read_empty c.args.v.now, read_long c.args.v.now)

pub loop-b-init : goal.loop-b-init
loop-b-init c = (search rules, grind (arith, read_start c.args.v.now))

pub loop-b-preserved : goal.loop-b-preserved
loop-b-preserved c =
    let loop = c.loop-b in
    (search rules, read_turn _ loop.a loop.b-index (search rules) loop.invariant.1 ∙ rw (← c.extend.ensures, c.in_ok-a.was) refl)

pub returns-in_err-a : goal.returns-in_err-a
returns-in_err-a c =
    let loop = c.loop-b in
    c.from_residual.ensures ∙ sym (read_turn _ loop.a loop.b-index (search rules) loop.invariant.1 ∙ rw (← c.extend.ensures, c.in_err-a.was) refl)

pub returns : goal.returns
returns c = sym (read_end _ c.loop-b.a c.loop-b.b-index (search rules) (search rules) c.loop-b.invariant.1)
