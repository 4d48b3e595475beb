-- `put` meets its contract: what `out` is to be is always `out` with the digits that are left at its front (`put_turn` of `Writing`).
use Rattle.std.proofs.Common.{refl, arith, length-set, rules}
use Rattle.counts.proofs.Writing.{put_start, put_turn, put_end}
use Rattle.counts.proofs.put.Goals as goal

pub loop-i-init : goal.loop-i-init
loop-i-init c = (search rules, (refl, put_start _ _ _ c.requires.0 c.requires.1))

pub loop-i-preserved : goal.loop-i-preserved
loop-i-preserved c = (search rules, (simp length-set (search rules), put_turn _ _ _ c.loop-i.i (search rules) (omega arith) c.loop-i.invariant.1.1))

pub returns : goal.returns
returns c = put_end _ _ _ c.loop-i.i (search rules) c.loop-i.invariant.1.1
