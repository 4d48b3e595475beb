-- `letter_at` meets its contract: a field whose end is one byte on is that byte, and any other field is no letter.
use Prim.Native.Nat.{◌-◌}
use mathlib.Core.Path.{◌≡◌}
use native.Mathlib.Omega.{arith}
use Rattle.lines.proofs.Cutting.{fields_past}
use Rattle.lines.proofs.Saying.{letter_not, letter_is}
use borrow.Author.Rules.{rules}
use Rattle.lines.proofs.letter_at.Goals as goal

pub returns-then-line-at : goal.returns-then-line-at
returns-then-line-at c = rw (fields_past c.args.line.now c.args.at (search rules))

pub returns-then-e-at-ne1 : goal.returns-then-e-at-ne1
returns-then-e-at-ne1 c = letter_not c.args.line.now c.args.at c.field_end-e.result c.field_end-e.ensures (λ (q : c.field_end-e.result - c.args.at ≡ 1). omega arith)

pub returns : goal.returns
returns c = letter_is c.args.line.now c.args.at c.field_end-e.result c.field_end-e.ensures (omega arith)
