-- `clear` meets its contract: what a call that gives 0 each time writes is zeros (`folded-zeros` of `Zeros`), at their place.
use Rattle.std.proofs.Common.{◌≡◌, ◌∙◌, length, ap, rules}
use Rattle.lent.specs.Bytes.{splice, zeros}
use Rattle.lent.proofs.Splice.{part_splice}
use Rattle.lent.proofs.Zeros.{folded-zeros}
use Rattle.blocks.proofs.clear.Goals as goal

pub returns : goal.returns
returns c =
    let e = folded-zeros _ (λ f x g r. search rules) c.fill_with.new.self _ _ c.fill_with.ensures.ran.1 in
    let l : length c.fill_with.new.self ≡ c.args.n = search rules in
    part_splice _ _ _ _ l ∙ ap (splice _ _) (e ∙ ap zeros l)
