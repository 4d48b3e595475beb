-- `details` meets its contract: its tests are those of `detailed`, in its order.
use mathlib.Core.Path.{sym, ◌∙◌}
use native.Mathlib.Omega.{arith}
use borrow.Author.Tests.{eq-eqb, ne_eqb}
use Rattle.hex_text.proofs.Printing.{hex_most}
use Rattle.replies.specs.Replies.{detailed}
use Rattle.machine.specs.Sizes.{value_max}
use Rattle.machine.specs.Words.{HIT}
use Rattle.replies.proofs.Cursor.details.Goals as goal

pub returns-then-numbered : goal.returns-then-numbered
unfolding detailed
returns-then-numbered c = let e = sym c.numbered.ensures ∙ c.if-numbered.true in rw e c.decimal.ensures

pub hexed-requires : goal.hexed-requires
hexed-requires c = omega (arith, hex_most c.args.value.now value_max (omega arith) c.requires.1)

pub returns-then-word-eq-HIT : goal.returns-then-word-eq-HIT
unfolding detailed
returns-then-word-eq-HIT c = let e = sym c.numbered.ensures ∙ c.if-numbered.false in rw (e, eq-eqb _ HIT c.if-word-eq-HIT.true) c.hexed.ensures

pub returns-else-word-eq-HIT : goal.returns-else-word-eq-HIT
unfolding detailed
returns-else-word-eq-HIT c = let e = sym c.numbered.ensures ∙ c.if-numbered.false in rw (e, ne_eqb _ HIT c.if-word-eq-HIT.false) c.byte.ensures
