-- The length is the first of the 65 bytes, and the value is the rest.
use native.Mathlib.Omega.{arith}
use lib.ListN.{get_or}
use borrow.Author.Tests.{eq-eqb, ne_eqb}
use Rattle.machine.specs.Sizes.{value_max}
use Rattle.state.proofs.Zeros.{zero-first}
use Rattle.state.proofs.is_plain.Goals as goal

pub returns-then-r-eq0 : goal.returns-then-r-eq0
returns-then-r-eq0 c = let x = c.args.r.now in rw (zero-first x 7 value_max (omega arith), eq-eqb (get_or x 7 0) 0 (omega arith)) c.is_zero.ensures

pub returns-else-r-eq0 : goal.returns-else-r-eq0
returns-else-r-eq0 c = let x = c.args.r.now in rw (zero-first x 7 value_max (omega arith), ne_eqb (get_or x 7 0) 0 (omega arith))
