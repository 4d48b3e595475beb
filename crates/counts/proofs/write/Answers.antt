-- `write` meets its contract: where the digits do not fit, nothing is touched; where they do, `put` says what `out` holds.
use Rattle.std.proofs.Common.{refl, arith}
use Rattle.counts.proofs.Writing.{written-fits, written_short}
use Rattle.counts.proofs.write.Goals as goal

pub returns-then-out-w : goal.returns-then-out-w
returns-then-out-w c = let e = written_short c.args.n c.args.out.now (omega arith) in rw e (refl, refl)

pub returns : goal.returns
returns c = let e = written-fits c.args.n c.args.out.now (omega arith) in
    (rw e c.digits_of-w.ensures, c.put.ensures)
