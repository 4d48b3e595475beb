-- After k turns the first k tokens stand side by side; distinct there, by chains or by an order, is distinct in the table.
use mathlib.Core.Path.{◌≡◌, sym, ◌∙◌}
use native.Mathlib.Omega.{arith}
use Rattle.lent.proofs.Choices.{test_failed}
use Rattle.machine.specs.Sizes.{key_count}
use Rattle.order.proofs.Numbers.{distinct_fails}
use Rattle.joins.proofs.Gathered.{gathered_none, gathered_more, distinct_gathered}
use borrow.Author.Rules.{rules}
use Rattle.joins.proofs.tokens_differ.Goals as goal

pub loop-k-init : goal.loop-k-init
loop-k-init c = (search rules, gathered_none _)

pub loop-k-preserved : goal.loop-k-preserved
loop-k-preserved c = (search rules, gathered_more _ _ _ _ (omega arith) c.loop-k.invariant.1 c.load_u32.ensures)

pub returns-in_default : goal.returns-in_default
returns-in_default c =
    let l = c.loop-k in
    let e : l.k ≡ key_count = omega arith in
    sym (sym (distinct_gathered _ _ _ (rw e at l.invariant.1)) ∙ c.in_default.ensures)

-- a number that is not new is there before
pub returns-then-not-is_new : goal.returns-then-not-is_new
returns-then-not-is_new c =
    let l = c.loop-k in
    let e : l.k ≡ key_count = omega arith in
    sym (sym (distinct_gathered _ _ _ (rw e at l.invariant.1)) ∙ distinct_fails _ key_count _ (omega (arith, c.in-Some.ensures)) (test_failed c.is_new.ensures c.if-not-is_new.true))

pub returns : goal.returns
returns c =
    let l = c.loop-k in
    let e : l.k ≡ key_count = omega arith in
    c.differ.ensures ∙ distinct_gathered _ _ _ (rw e at l.invariant.1)
