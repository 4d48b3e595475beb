-- Where there is no lease its twelve bytes are zero (`lease_put`).
use mathlib.Core.Option.{none}
use native.Mathlib.Omega.{arith}
use Rattle.layout.proofs.Parts.{lease_put}
use Rattle.drops.proofs.drop_lease.Goals as goal

pub returns : goal.returns
returns c = let clear = c.clear in
    let args = c.args in
    λ σ h. rw clear.ensures (lease_put h args.k (omega arith) none tt)
