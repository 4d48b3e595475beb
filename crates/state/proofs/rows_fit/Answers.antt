-- After i turns each of the first i rows is formed and joins, and all is known at row i that `join` asks.
use mathlib.Core.Path.{◌≡◌, ◌∙◌}
use mathlib.Core.Bool.{and-false}
use native.Mathlib.Omega.{arith}
use Rattle.lent.proofs.Walks.{every-none, every_more, every_fails}
use Rattle.lent.proofs.Choices.{test_failed, test_passed}
use Rattle.lent.proofs.Splice.{part_win}
use Rattle.machine.specs.Sizes.{row_count}
use Rattle.joins.specs.Joins.{join_ok}
use Rattle.joins.proofs.Joins.{ready-none}
use Rattle.state.specs.Forms.{rows_formed, rows_fit}
use borrow.Author.Rules.{rules}
use Rattle.state.proofs.rows_fit.Goals as goal
use Rattle.state.proofs.rows_fit.Goals.{After-row_formed}
use Rattle.state.proofs.rows_fit.Invariants.{Formed}

pub loop-i-init : goal.loop-i-init
loop-i-init c = (search rules, (every-none _, (every-none _, ready-none c.requires)))

row_told : (c : After-row_formed) → c.row_formed.result ≡ Formed c.args.s.now c.loop-i.i
row_told c = c.row_formed.ensures ∙ rw ((rw c.unwrap-row.ensures at c.as_array.ensures.cases).same, part_win)

pub returns-then-not-row_formed : goal.returns-then-not-row_formed
unfolding rows_fit rows_formed
returns-then-not-row_formed c = rw (every_fails (Formed c.args.s.now) row_count c.loop-i.i (search rules) (test_failed (row_told (goal.at.returns-then-not-row_formed c).After-row_formed) c.if-not-row_formed.true))

pub join-requires : goal.join-requires
join-requires c = (search rules, c.loop-i.invariant.1.1.1)

pub returns-then-not-join : goal.returns-then-not-join
unfolding rows_fit
returns-then-not-join c = let f = every_fails (join_ok c.args.s.now) row_count c.loop-i.i (search rules) (test_failed c.join.ensures.is c.if-not-join.true) in rw (f, and-false)

pub loop-i-preserved : goal.loop-i-preserved
loop-i-preserved c = let j = c.join.ensures in
    (search rules, (every_more _ _ c.loop-i.invariant.1.0 (test_passed (row_told (goal.at.loop-i-preserved c).After-row_formed) c.if-not-row_formed.false), (every_more _ _ c.loop-i.invariant.1.1.0 (test_passed j.is c.if-not-join.false), j.next (c.if-not-join.false))))

pub returns : goal.returns
unfolding rows_fit rows_formed
returns c = let e : c.loop-i.i ≡ row_count = omega arith in rw (rw e at c.loop-i.invariant.1.0, rw e at c.loop-i.invariant.1.1.0)
