-- A mark over 1 (`value_mark_lem`) and a length over what the mark allows (`value_too_long`) fail; else only the bytes behind count (`value_fits`).
use mathlib.Core.Path.{sym, ◌∙◌}
use native.Mathlib.Omega.{arith}
use borrow.Author.Rules.{rules}
use Rattle.state.proofs.Values.{value_mark_lem, value_too_long, value_fits}
use Rattle.state.proofs.value_formed.Goals as goal

pub returns-then-mark-gt1 : goal.returns-then-mark-gt1
returns-then-mark-gt1 c = sym (value_mark_lem c.args.r.now c.fits-r c.load_u32-word.result c.load_u32-word.ensures c.if-mark-gt1.true)

pub returns-then-mark-n : goal.returns-then-mark-n
returns-then-mark-n c = sym (value_too_long c.args.r.now c.fits-r c.load_u32-word.result c.load_u32-word.ensures c.if-mark-n.true)

pub is_bare-requires : goal.is_bare-requires
is_bare-requires c = (search rules, omega (arith, c.load_u32-word.ensures))

pub returns : goal.returns
returns c =
    let load-u32 = c.load_u32-word in
    let args = c.args in
    c.is_bare.ensures ∙ sym (value_fits args.r.now c.fits-r load-u32.result load-u32.ensures (omega arith) (omega arith))
