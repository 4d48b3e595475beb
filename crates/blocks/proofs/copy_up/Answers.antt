-- `copy_up` writes the window at its place: its bytes from i on are written, and those still to be read, before them, are as they were.
use Prim.Native.Nat.{◌-◌}
use mathlib.Core.Path.{◌≡◌, refl, ◌∙◌}
use native.Mathlib.Nat.{add-zero, sub-zero}
use native.Mathlib.Omega.{arith}
use lib.ListN.{length-set}
use borrow.Author.Rules.{rules}
use Rattle.lent.proofs.Splice.{splice-none, win-none}
use Rattle.lent.proofs.Stores.{copy_up_turn}
use Rattle.blocks.proofs.copy_up.Goals as goal

pub loop-i-init : goal.loop-i-init
loop-i-init c = let e : c.args.n - c.args.n ≡ 0 = omega arith in
    (search rules, (refl, rw (e, win-none, splice-none)))

pub loop-i-preserved : goal.loop-i-preserved
loop-i-preserved c = (search rules, (simp length-set (search rules), copy_up_turn _ _ _ _ _ _ (search rules) (search rules) (search rules) (search rules) c.loop-i.invariant.1.1))

pub returns : goal.returns
returns c = let e : c.loop-i.i ≡ 0 = omega arith in
    c.loop-i.invariant.1.1 ∙ rw (e, add-zero, add-zero, sub-zero)
