-- A row is free, or its kind is one of the three and the result is that of what is staged.
use mathlib.Core.Path.{ap, ◌∙◌}
use native.Mathlib.Omega.{arith}
use borrow.Author.Tests.{eq-eqb, ne_eqb}
use Rattle.lent.specs.Bytes.{le32}
use Rattle.lent.specs.Tables.{all_zero}
use Rattle.lent.proofs.Choices.{test_failed, test_passed}
use Rattle.lent.proofs.Splice.{win-whole}
use Rattle.machine.specs.Sizes.{row_width}
use Rattle.state.specs.Forms.{row_formed}
use Rattle.state.proofs.row_formed.Goals as goal

pub returns-then-load_u32-eq0 : goal.returns-then-load_u32-eq0
unfolding row_formed
returns-then-load_u32-eq0 c = let x = c.args.r.now in rw (eq-eqb (le32 x 0) 0 (omega arith)) (c.is_zero.ensures ∙ ap all_zero (win-whole x row_width (omega arith)))

pub returns-then-is_kind : goal.returns-then-is_kind
unfolding row_formed
returns-then-is_kind c = let x = c.args.r.now in rw (ne_eqb (le32 x 0) 0 (omega arith), test_passed c.is_kind.ensures c.if-is_kind.true) c.staged_formed.ensures

pub returns-else-is_kind : goal.returns-else-is_kind
unfolding row_formed
returns-else-is_kind c = let x = c.args.r.now in rw (ne_eqb (le32 x 0) 0 (omega arith), test_failed c.is_kind.ensures c.if-is_kind.false) c.if-is_kind.false
