-- `digits_of` meets its contract: the power of ten just below tells how many digits there are (`digits_exact` of `Writing`).
use Rattle.std.proofs.Common.{arith}
use Rattle.counts.proofs.Writing.{digits_exact, zero-digit}
use Rattle.counts.proofs.digits_of.Goals as goal

pub returns : goal.returns
returns c = grind (arith, digits_exact c.args.n, zero-digit)
