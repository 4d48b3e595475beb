-- What was read decides: where one of the two is no count there is no result, else the count that is written.
use native.Mathlib.Omega.{arith}
use mathlib.Core.Path.{sym, ◌∙◌}
use Rattle.counts.specs.Count.{read_count}
use Rattle.deltas.proofs.Making.{makes_drop, counted_value, counted_operand, counted}
use Rattle.deltas.proofs.count.Goals as goal

pub returns-in_err-a : goal.returns-in_err-a
returns-in_err-a c = let args = c.args in
    rw c.from_residual.ensures (makes_drop (counted_value args.operation (read_count args.value.now) (read_count args.operand.now) (sym c.read.ensures ∙ c.in_err-a.was)))

pub returns-in_err-b : goal.returns-in_err-b
returns-in_err-b c = let args = c.args in
    rw c.from_residual-in_err-b.ensures
    (makes_drop (counted_operand args.operation (read_count args.value.now) (read_count args.operand.now) _ (sym c.read.ensures ∙ c.in_ok-a.was) (sym c.read-2.ensures ∙ c.in_err-b.was)))

pub returns : goal.returns
returns c = let write = c.write in
    let args = c.args in
    counted args.operation _ _ _ _ (read_count args.value.now) (read_count args.operand.now) args.out.now _ (sym c.read.ensures ∙ c.in_ok-a.was) (sym c.read-2.ensures ∙ c.in_ok-b.was)
    c.calculate-n.ensures (omega arith) write.ensures.0 write.ensures.1
