use mathlib.Core.Path.{◌≡◌}
use lib.ListN.{take}
use Rattle.lent.specs.Bytes.{splice}
use Rattle.hex_text.specs.Hex.{digits_of}
use Rattle.hex_text.proofs.print.Given as goal

abbrev pub invariant-loop-i : goal.invariant-loop-i
invariant-loop-i l = l.out ≡ splice l.initial.out 0 (digits_of (take l.i l.v))
