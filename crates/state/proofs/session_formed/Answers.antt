-- A session is free, and its two words are 0, or each test is the next of its conditions.
use Prim.Native.Nat.{ℕ}
use mathlib.Core.Path.{◌≡◌, ap}
use mathlib.Core.Bool.{◌&&◌}
use native.Mathlib.Omega.{arith}
use lib.Dec.{eqb, leb}
use lib.ListN.{get_or}
use borrow.Author.Tests.{eq-eqb, ne_eqb, lt-ltb, le-ltb, le-leb, lt-leb}
use Rattle.lent.specs.Bytes.{le32, le64}
use Rattle.machine.specs.Sizes.{step_max}
use Rattle.state.specs.Forms.{life_formed, session_formed}
use Rattle.state.proofs.Zeros.{session_zeros}
use Rattle.state.proofs.session_formed.Goals as goal
use Rattle.state.proofs.session_formed.Goals.{After-load_u16}

pub returns-then-load_u64-eq0 : goal.returns-then-load_u64-eq0
unfolding session_formed
returns-then-load_u64-eq0 c = let x = c.args.r.now in rw (eq-eqb (le32 x 0) 0 (omega arith), session_zeros x (omega arith), eq-eqb (le64 x 0) 0 (omega arith)) (ap (λ (v : ℕ). eqb v 0) c.load_u64-then-load_u64-eq0.ensures)

pub returns-else-load_u64-eq0 : goal.returns-else-load_u64-eq0
unfolding session_formed
returns-else-load_u64-eq0 c = let x = c.args.r.now in rw (eq-eqb (le32 x 0) 0 (omega arith), session_zeros x (omega arith), ne_eqb (le64 x 0) 0 (omega arith)) (ne_eqb _ 0 c.if-load_u64-eq0.false)

pub returns-else-number-next : goal.returns-else-number-next
unfolding session_formed
returns-else-number-next c = let x = c.args.r.now in rw (ne_eqb (le32 x 0) 0 (omega arith), le-ltb (le32 x 0) c.args.next (omega arith)) (le-ltb _ c.args.next c.if-number-next.false)

pub returns-else-r-eq0 : goal.returns-else-r-eq0
unfolding session_formed
returns-else-r-eq0 c = let x = c.args.r.now in rw (ne_eqb (le32 x 0) 0 (omega arith), lt-ltb (le32 x 0) c.args.next (omega arith), ne_eqb (get_or x 5 0) 0 (omega arith))

-- past the tests of its number and its unused byte, its steps and its life decide
used : (c : After-load_u16) → let a = c.args in session_formed a.limit a.next a.r.now ≡ leb c.load_u16.result step_max && life_formed a.limit a.r.now
unfolding session_formed
used c =
    let args = c.args in
    let x = args.r.now in
    rw (ne_eqb (le32 x 0) 0 (omega arith), lt-ltb (le32 x 0) args.next (omega arith), eq-eqb (get_or x 5 0) 0 (omega arith), ← c.load_u16.ensures.0)

pub returns-then-load_u16-le-STEP_MAX : goal.returns-then-load_u16-le-STEP_MAX
returns-then-load_u16-le-STEP_MAX c = rw (used (goal.at.returns-then-load_u16-le-STEP_MAX c).After-load_u16, le-leb _ step_max c.if-load_u16-le-STEP_MAX.true) c.life_formed.ensures

pub returns-else-load_u16-le-STEP_MAX : goal.returns-else-load_u16-le-STEP_MAX
returns-else-load_u16-le-STEP_MAX c = rw (used (goal.at.returns-else-load_u16-le-STEP_MAX c).After-load_u16, lt-leb _ step_max c.if-load_u16-le-STEP_MAX.false)
