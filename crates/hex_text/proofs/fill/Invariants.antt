use Rattle.std.proofs.Common.{◌≡◌, ◌*◌, drop}
use Rattle.lent.specs.Bytes.{splice}
use Rattle.hex_text.specs.Hex.{bytes_of}
use Rattle.hex_text.proofs.fill.Given as goal

abbrev pub invariant-loop-i : goal.invariant-loop-i
invariant-loop-i l = splice l.initial.out 0 (bytes_of l.text) ≡ splice l.out l.i (bytes_of (drop (2 * l.i) l.text))
