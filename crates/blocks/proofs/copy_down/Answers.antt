-- `copy_down` writes the window at its place: after i turns its first i bytes are written, and those still to be read are as they were.
use mathlib.Core.Path.{◌≡◌, refl, sym}
use native.Mathlib.Omega.{arith}
use lib.ListN.{length-set}
use borrow.Author.Rules.{rules}
use Rattle.lent.specs.Bytes.{win}
use Rattle.lent.proofs.Splice.{splice-none}
use Rattle.lent.proofs.Stores.{copy_down_turn}
use Rattle.blocks.proofs.copy_down.Goals as goal

pub loop-i-init : goal.loop-i-init
unfolding win
loop-i-init c = (search rules, (refl, sym (splice-none _ _)))

pub loop-i-preserved : goal.loop-i-preserved
loop-i-preserved c = (search rules, (simp length-set (search rules), copy_down_turn _ _ _ _ _ (search rules) (search rules) c.loop-i.invariant.1.1))

pub returns : goal.returns
returns c = let e : c.loop-i.i ≡ c.args.n = omega arith in
    rw (← e) c.loop-i.invariant.1.1
