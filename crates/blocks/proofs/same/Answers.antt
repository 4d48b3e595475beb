-- `same` joins the differences of the bytes by `|`: after i turns that is 0 exactly if the first i bytes agree.
use mathlib.Core.Path.{◌≡◌, refl, sym, ◌∙◌}
use native.Mathlib.Omega.{arith}
use lib.ListN.{length}
use lib.Seq.{take-length}
use borrow.Author.Rules.{rules}
use Rattle.lent.specs.Tables.{same}
use Rattle.lent.proofs.Equal.{same_lengths, same_turn}
use Rattle.blocks.proofs.same.Goals as goal

pub returns-then-n-b : goal.returns-then-n-b
returns-then-n-b c = sym (same_lengths _ _ (search rules))

pub loop-i-init : goal.loop-i-init
unfolding same
loop-i-init c = (search rules, refl)

pub loop-i-preserved : goal.loop-i-preserved
loop-i-preserved c =
    let loop = c.loop-i in
    let args = c.args in
    (search rules, same_turn args.a.now args.b.now loop.i loop.seen (search rules) (search rules) loop.invariant.1)

pub returns : goal.returns
returns c = let e : c.loop-i.i ≡ length c.args.a.now = omega arith in
    let f : length c.args.a.now ≡ length c.args.b.now = omega arith in
    let la = rw (← e) at (take-length c.args.a.now) in
    let lb = rw (← f, ← e) at (take-length c.args.b.now) in
    c.loop-i.invariant.1 ∙ rw (la, lb)
