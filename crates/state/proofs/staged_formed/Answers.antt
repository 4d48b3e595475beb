-- The mark picks the case, and mark and kind are tested before the bytes.
use Prim.Native.Nat.{◌+◌}
use mathlib.Core.Path.{◌≡◌}
use mathlib.Core.Bool.{◌&&◌}
use native.Mathlib.Omega.{arith}
use lib.Dec.{eqb}
use lib.ListN.{get_or}
use borrow.Author.Tests.{eq-eqb, ne_eqb, le-leb, lt-leb}
use Rattle.lent.specs.Bytes.{win}
use Rattle.lent.specs.Tables.{all_zero}
use Rattle.machine.specs.Sizes.{value_max}
use Rattle.machine.specs.Words.{REFRESH, INCREMENTAL}
use Rattle.state.specs.Forms.{staged_formed}
use Rattle.lent.proofs.Choices.{if_both}
use Rattle.state.proofs.staged_formed.Goals as goal
use Rattle.state.proofs.staged_formed.Goals.{After-is_marked}

pub returns-then-kind-lt-REFRESH : goal.returns-then-kind-lt-REFRESH
unfolding staged_formed
returns-then-kind-lt-REFRESH c = let x = c.args.r.now in rw (eq-eqb (get_or x 6 0) 1 (omega arith), lt-leb REFRESH c.args.kind (omega arith))

pub returns-then-mark-eq-VALUED : goal.returns-then-mark-eq-VALUED
unfolding staged_formed
returns-then-mark-eq-VALUED c = let x = c.args.r.now in rw (eq-eqb (get_or x 6 0) 1 (omega arith), le-leb REFRESH c.args.kind (omega arith), ← c.index.ensures.0) c.is_fitted.ensures

-- where no value is staged, mark and kind, then the bytes
other : (c : After-is_marked) → let a = c.args in staged_formed a.kind a.r.now ≡ c.is_marked.result && all_zero (win a.r.now 7 (1 + value_max))
unfolding staged_formed
other c =
    let args = c.args in
    let m = get_or args.r.now 6 0 in
    rw (ne_eqb m 1 (omega arith), c.is_marked.ensures) (if_both (eqb m 2) (eqb args.kind INCREMENTAL) (eqb m 0) (all_zero (win args.r.now 7 (1 + value_max))))

pub returns-then-is_marked : goal.returns-then-is_marked
returns-then-is_marked c = rw (other (goal.at.returns-then-is_marked c).After-is_marked, c.if-is_marked.true) c.is_plain.ensures

pub returns-else-is_marked : goal.returns-else-is_marked
returns-else-is_marked c = rw (other (goal.at.returns-else-is_marked c).After-is_marked, c.if-is_marked.false)
