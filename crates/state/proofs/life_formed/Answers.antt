-- The mark picks the case: sealed with no deadline, or open.
use Prim.Native.Nat.{ℕ}
use mathlib.Core.Path.{ap}
use native.Mathlib.Omega.{arith}
use lib.ListN.{get_or}
use lib.Dec.{eqb, leb}
use borrow.Author.Tests.{eq-eqb, ne_eqb}
use Rattle.state.specs.Forms.{life_formed}
use Rattle.state.proofs.life_formed.Goals as goal

pub returns-then-r-eq-SEALED : goal.returns-then-r-eq-SEALED
unfolding life_formed
returns-then-r-eq-SEALED c = let x = c.args.r.now in rw (eq-eqb (get_or x 4 0) 2 (omega arith)) (ap (λ (v : ℕ). eqb v 0) c.load_u64-until.ensures)

pub returns-then-r-ne-OPEN : goal.returns-then-r-ne-OPEN
unfolding life_formed
returns-then-r-ne-OPEN c = let x = c.args.r.now in rw (ne_eqb (get_or x 4 0) 2 (omega arith), ne_eqb (get_or x 4 0) 1 (omega arith))

pub returns : goal.returns
unfolding life_formed
returns c =
    let load-u64 = c.load_u64-until in
    let args = c.args in
    let x = args.r.now in
    rw (ne_eqb (get_or x 4 0) 2 (omega arith), eq-eqb (get_or x 4 0) 1 (omega arith)) (ap (λ (v : ℕ). leb v args.limit) load-u64.ensures)
