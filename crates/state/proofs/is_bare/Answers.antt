-- The bytes joined, each under its mask, are 0 exactly if those passed from the n-th on are.
use Prim.Native.Nat.{◌+◌, ◌-◌}
use mathlib.Core.Path.{◌≡◌, refl}
use native.Mathlib.Omega.{arith}
use borrow.Author.Rules.{rules}
use Rattle.lent.specs.Bytes.{win}
use Rattle.lent.specs.Tables.{all_zero}
use Rattle.machine.specs.Sizes.{value_max}
use Rattle.state.proofs.Halves.{mask_zero, mask_one}
use Rattle.state.proofs.Zeros.{mask_turn}
use Rattle.state.proofs.is_bare.Goals as goal

pub loop-i-init : goal.loop-i-init
unfolding all_zero win
loop-i-init c = (search rules, let z : ◌-◌ 0 c.args.n ≡ 0 = omega arith in rw z refl)

pub loop-i-preserved : goal.loop-i-preserved
loop-i-preserved c =
    let loop = c.loop-i in
    let args = c.args in
    let filled = args.masks.now.filled in
    let place = value_max - args.n + loop.i in
    let byte = (c.type_inv.r (args.at + loop.i)).fits in (
      search rules,
      mask_turn args.r.now args.at args.n loop.i loop.seen _ (search rules) byte
          (λ h. mask_zero filled place (omega arith)) (λ h. mask_one filled place (omega arith) (omega arith)) loop.invariant.1,
    )

pub returns : goal.returns
returns c = let e : c.loop-i.i ≡ value_max = omega arith in rw e at c.loop-i.invariant.1
