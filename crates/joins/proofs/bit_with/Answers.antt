-- `bit_with` sets the bit: below 64 the shift of 1 loses nothing.
use mathlib.Core.Path.{ap}
use lib.Bits.{bit_or}
use Rattle.joins.proofs.Bits.{one_shifted}
use Rattle.joins.proofs.bit_with.Goals as goal

pub returns : goal.returns
returns c = ap (bit_or c.args.m) (one_shifted c.args.b c.requires)
