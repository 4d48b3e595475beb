-- `copy_in` writes v at its place: after i turns its first i bytes are written.
use Rattle.std.proofs.Common.{◌≡◌, length, sym, ap, ◌∙◌, zero-add, arith, rules}
use Rattle.lent.specs.Bytes.{splice, win}
use Rattle.lent.proofs.Splice.{splice-none, win-whole}
use Rattle.lent.proofs.Stores.{copy_turn}
use Rattle.blocks.proofs.copy_in.Goals as goal

pub loop-i-init : goal.loop-i-init
unfolding win
loop-i-init c = sym (splice-none _ _)

pub loop-i-preserved : goal.loop-i-preserved
loop-i-preserved c = copy_turn _ _ _ _ 0 _ _ (search rules) (search rules) (rw zero-add) c.loop-i.invariant

pub returns : goal.returns
returns c =
    let e : c.loop-i.i ≡ length c.args.v.now = omega arith in
    c.loop-i.invariant ∙ ap (splice _ _) (win-whole _ _ (sym e))
