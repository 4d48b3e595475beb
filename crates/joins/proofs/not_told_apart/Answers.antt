-- After k turns the first k tokens are on their chains and distinct, or the loop has stopped.
use mathlib.Core.Path.{◌≡◌}
use native.Mathlib.Omega.{arith}
use Rattle.machine.specs.Sizes.{key_count}
use Rattle.order.proofs.Numbers.{distinct_none, distinct_more}
use Rattle.joins.proofs.Chains.{chained_none}
use borrow.Author.Rules.{rules}
use Rattle.joins.proofs.not_told_apart.Goals as goal

pub loop-k-init : goal.loop-k-init
loop-k-init c = (search rules, (chained_none _, distinct_none _))

pub loop-k-preserved : goal.loop-k-preserved
loop-k-preserved c = let e = c.in-Some.ensures in (search rules, (e.0, distinct_more _ _ c.loop-k.invariant.1.1 e.1))

pub returns : goal.returns
returns c = let e : c.loop-k.k ≡ key_count = omega arith in rw e at c.loop-k.invariant.1.1
