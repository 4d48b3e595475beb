-- The number of the operation picks the sum or the difference.
use borrow.Author.Tests.{eq-eqb, ne_eqb}
use Rattle.deltas.proofs.calculate.Goals as goal

pub returns-then-operation-eq-INCREMENT : goal.returns-then-operation-eq-INCREMENT
returns-then-operation-eq-INCREMENT c = rw (eq-eqb _ _ c.if-operation-eq-INCREMENT.true) c.increment.ensures

pub returns : goal.returns
returns c = rw (ne_eqb _ _ c.if-operation-eq-INCREMENT.false) c.decrement.ensures
