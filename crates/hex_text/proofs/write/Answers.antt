-- `write` meets its contract: the empty value is the dash, and any other the digits of its bytes.
use Rattle.std.proofs.Common.{length, refl, sym, ap, ◌∙◌, arith}
use borrow.Author.Tests.{eqb-true, eqb-false}
use Rattle.lent.proofs.Splice.{set-splice}
use Rattle.hex_text.proofs.Printing.{hex_none, hex_some, length_some}
use Rattle.hex_text.proofs.write.Goals as goal

pub bounds-out-0 : goal.bounds-out-0
bounds-out-0 c = omega (arith, ap length (hex_none c.args.v.now (eqb-true _ _ (sym c.is_empty.ensures ∙ c.if-is_empty.true))))

pub returns-then-is_empty : goal.returns-then-is_empty
returns-then-is_empty c =
    let e = hex_none c.args.v.now (eqb-true _ _ (sym c.is_empty.ensures ∙ c.if-is_empty.true)) in
    rw e (refl, set-splice _ _ _ (omega (arith, ap length e)))

pub print-requires : goal.print-requires
print-requires c = omega (arith, length_some c.args.v.now (eqb-false _ _ (sym c.is_empty.ensures ∙ c.if-is_empty.false)))

pub overflow_mul-result : goal.overflow_mul-result
overflow_mul-result c = omega (arith, length_some c.args.v.now (eqb-false _ _ (sym c.is_empty.ensures ∙ c.if-is_empty.false)))

pub returns : goal.returns
returns c =
    let some = eqb-false _ _ (sym c.is_empty.ensures ∙ c.if-is_empty.false) in
    (sym (length_some c.args.v.now some), rw (hex_some c.args.v.now some) c.print.ensures)
