-- The token is 0 or not, and then each test is the next of the lease's conditions.
use Prim.Native.Nat.{ℕ}
use mathlib.Core.Path.{ap}
use native.Mathlib.Omega.{arith}
use lib.Dec.{eqb, leb}
use borrow.Author.Tests.{eq-eqb, ne_eqb, lt-ltb, le-ltb}
use Rattle.lent.specs.Bytes.{le32}
use Rattle.state.specs.Forms.{lease_formed}
use Rattle.state.proofs.lease_formed.Goals as goal

pub returns-then-token-eq0 : goal.returns-then-token-eq0
unfolding lease_formed
returns-then-token-eq0 c = let x = c.args.r.now in rw (eq-eqb (le32 x 4) 0 (omega arith)) (ap (λ (v : ℕ). eqb v 0) c.load_u64-until.ensures)

pub returns-then-next-token : goal.returns-then-next-token
unfolding lease_formed
returns-then-next-token c = let x = c.args.r.now in rw (ne_eqb (le32 x 4) 0 (omega arith), le-ltb (le32 x 4) c.args.next (omega arith))

pub returns : goal.returns
unfolding lease_formed
returns c =
    let args = c.args in
    let x = args.r.now in
    rw (ne_eqb (le32 x 4) 0 (omega arith), lt-ltb (le32 x 4) args.next (omega arith)) (ap (λ (v : ℕ). leb v args.limit) c.load_u64-until.ensures)
