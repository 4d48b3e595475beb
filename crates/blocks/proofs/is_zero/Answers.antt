-- `is_zero` meets its contract: bytes that are joined by `|` are 0 exactly if each is (`fold_or` of `Zeros`).
use Rattle.std.proofs.Common.{rules, ◌≡◌, bit_or}
use Rattle.std.specs.List.{fold}
use Rattle.lent.specs.Bytes.{win}
use Rattle.lent.proofs.Zeros.{fold_or}
use Rattle.blocks.proofs.is_zero.Goals as goal

pub returns : goal.returns
unfolding win
returns c =
    let e : c.fold.result ≡ fold bit_or 0 (win c.args.s.now c.args.from c.args.n) = search rules in
    rw e (fold_or 0 (win c.args.s.now c.args.from c.args.n))
