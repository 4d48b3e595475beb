-- Each arm is one case of the definition, by the operation's number.
use Rattle.deltas.proofs.Making.{operate-append, operate_prepend, operate-count}
use Rattle.deltas.proofs.operate.Goals as goal

pub returns-in-1 : goal.returns-in-1
returns-in-1 c = rw (c.in-1.is, operate-append) c.join.ensures

pub returns-in-2 : goal.returns-in-2
returns-in-2 c = rw (c.in-2.is, operate_prepend) c.join-in-2.ensures

pub returns-in_default : goal.returns-in_default
returns-in_default c = let count = c.count in
    let match = c.in_default in
    let args = c.args in
    rw (operate-count args.operand.now args.value.now args.operation match.in_default-own.rest.0.1 match.in_default-own.rest.1) count.ensures
