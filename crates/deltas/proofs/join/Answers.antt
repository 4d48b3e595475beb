-- The two copies are the values one behind the other; where they would pass 64 bytes there is no result.
use native.Mathlib.Omega.{arith}
use Rattle.deltas.proofs.Making.{makes_drop, joined-long, joined}
use Rattle.deltas.proofs.join.Goals as goal

pub returns-then-n-gt-VALUE_MAX : goal.returns-then-n-gt-VALUE_MAX
returns-then-n-gt-VALUE_MAX c = makes_drop (joined-long c.args.a.now c.args.b.now (omega arith))

pub returns-then-n-m : goal.returns-then-n-m
returns-then-n-m c = makes_drop (joined-long c.args.a.now c.args.b.now (omega arith))

pub returns : goal.returns
returns c = let copy-in2 = c.copy_in-2 in
    let copy-in = c.copy_in in
    let args = c.args in
    rw (copy-in2.ensures, copy-in.ensures) (joined args.a.now args.b.now args.out.now (omega arith) (omega arith))
