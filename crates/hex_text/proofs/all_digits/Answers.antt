-- `all_digits` meets its contract: it tests each byte (`digits_folded` of `Reading`).
use Rattle.std.specs.Prelude.{Bool, ◌&&◌, ℕ, ltb, true}
use Rattle.std.proofs.Common.{rules, ◌∙◌}
use Rattle.std.proofs.lemmas.Iterator.{YieldsList-from_slice}
use Rattle.std.proofs.lemmas.Iterator.Consumers.{fold_from_yields_List}
use Rattle.hex_text.specs.Hex.{digit_value}
use Rattle.hex_text.proofs.Reading.{some_told, digits_folded}
use Rattle.hex_text.proofs.all_digits.Goals as goal

pub returns : goal.returns
returns c =
    let text = c.args.text.now in
    fold_from_yields_List _ (λ (a : Bool) (b : ℕ). a && ltb (digit_value b) 16) true c.fold.result c.fold.ensures.ran (YieldsList-from_slice text (cc)) (λ a x b q k. search (rules, some_told))
    ∙ digits_folded text true
