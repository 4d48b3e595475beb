-- `print` meets its contract: after i turns the digits of the first i bytes stand at the front (`print_turn` of `Printing`).
use Rattle.std.proofs.Common.{sym, arith}
use Rattle.lent.proofs.Splice.{splice-none}
use Rattle.hex_text.proofs.Printing.{print_turn, print_end}
use Rattle.hex_text.proofs.print.Goals as goal

pub loop-i-init : goal.loop-i-init
loop-i-init c = sym (splice-none _ _)

pub loop-i-preserved : goal.loop-i-preserved
loop-i-preserved c =
    let loop = c.loop-i in
    let args = c.args in
    let turn = print_turn args.v.now args.out.now loop.out loop.i (omega arith) (omega arith) (omega arith) loop.invariant in
    rw (c.digit_of.ensures, c.digit_of-in-loop-i.ensures) turn

pub returns : goal.returns
returns c = print_end _ _ _ c.loop-i.i (omega arith) c.loop-i.invariant
