-- The length is at most 64, and then the result is that of the scan behind the value.
use native.Mathlib.Omega.{arith}
use borrow.Author.Tests.{le-leb, lt-leb}
use Rattle.machine.specs.Sizes.{value_max}
use Rattle.state.specs.Forms.{fitted}
use Rattle.state.proofs.is_fitted.Goals as goal

pub returns-then-n-gt-VALUE_MAX : goal.returns-then-n-gt-VALUE_MAX
unfolding fitted
returns-then-n-gt-VALUE_MAX c = rw (lt-leb c.args.n value_max (omega arith))

pub returns : goal.returns
unfolding fitted
returns c = rw (le-leb c.args.n value_max (omega arith)) c.is_bare.ensures
