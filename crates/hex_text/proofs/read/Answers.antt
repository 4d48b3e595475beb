-- `read` meets its contract: the text is checked first, so that `out` stays where it says no value; then `fill` writes it.
use mathlib.Core.Path.{refl, sym, ◌∙◌}
use Rattle.lent.proofs.Splice.{splice-none}
use Rattle.lent.proofs.Choices.{test_failed, test_passed}
use Rattle.hex_text.proofs.Reading.{length_bytes, read_dash, read_pairs, read_none}
use borrow.Author.Rules.{rules}
use Rattle.hex_text.proofs.read.Goals as goal

pub returns-then-is_dash : goal.returns-then-is_dash
returns-then-is_dash c = rw (read_dash c.args.text.now (sym c.is_dash.ensures ∙ c.if-is_dash.true)) (refl, sym (splice-none _ _))

pub returns-then-not-is_hex : goal.returns-then-not-is_hex
returns-then-not-is_hex c =
    let is-dash = c.is_dash in
    let args = c.args in
    rw (read_none args.text.now (sym is-dash.ensures ∙ c.if-is_dash.false) (test_failed c.is_hex.ensures c.if-not-is_hex.true))
    (refl, sym (splice-none _ _))

pub fill-requires : goal.fill-requires
fill-requires c = (test_passed c.is_hex.ensures c.if-not-is_hex.false, search rules)

pub returns : goal.returns
returns c =
    let if2 = c.if-not-is_hex in
    let is-hex = c.is_hex in
    let if1 = c.if-is_dash in
    let is-dash = c.is_dash in
    let args = c.args in
    rw (read_pairs args.text.now (sym is-dash.ensures ∙ if1.false) (test_passed is-hex.ensures if2.false), length_bytes)
    (refl, c.fill.ensures)
