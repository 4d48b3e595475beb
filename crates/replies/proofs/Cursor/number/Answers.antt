-- `number` meets its contract: the byte stands behind the digits, of which there are at most 20.
use native.Mathlib.Omega.{arith}
use Rattle.replies.proofs.Lines.{put_then, printed_most}
use Rattle.replies.proofs.Cursor.number.Goals as goal

pub byte-requires : goal.byte-requires
byte-requires c = omega (arith, printed_most c.args.n)

pub returns : goal.returns
returns c = put_then c.decimal.ensures c.byte.ensures (omega (arith, printed_most c.args.n))
