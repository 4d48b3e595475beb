-- `fill` meets its contract: what `out` is to be is always `out` with what the pairs that are left say behind the bytes written (`fill_turn` of `Reading`).
use Rattle.std.proofs.Common.{◌<◌, ◌/◌, length, arith}
use Rattle.hex_text.proofs.Reading.{pair_high, pair_low, high_digit, low_digit, some_or, fill_turn, fill_end}
use Rattle.hex_text.proofs.fill.Goals as goal

pub loop-i-preserved : goal.loop-i-preserved
loop-i-preserved c =
    let text = c.args.text.now in
    let i = c.loop-i.i in
    let h : i < length text / 2 = omega (arith, c.as_chunks.ensures.front_len) in
    let front = c.as_chunks.ensures.front in
    let high = some_or _ _ _ c.digit.ensures (high_digit text _ i front h c.requires.0) c.unwrap_or.ensures in
    let low = some_or _ _ _ c.digit-in-loop-i.ensures (low_digit text _ i front h c.requires.0) c.unwrap_or-in-loop-i.ensures in
    rw (high, low, pair_high text _ i front h, pair_low text _ i front h) (fill_turn text _ c.loop-i.out i (omega arith) (omega arith) c.loop-i.invariant)

pub returns : goal.returns
returns c = fill_end c.args.text.now _ c.loop-i.out c.loop-i.i (omega (arith, c.as_chunks.ensures.front_len)) c.loop-i.invariant
