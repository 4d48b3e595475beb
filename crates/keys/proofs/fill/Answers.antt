-- The value is put, and then the bytes of the lease are cleared.
use native.Mathlib.Omega.{arith}
use Rattle.keys.proofs.Written.{value_filled}
use Rattle.keys.proofs.fill.Goals as goal

pub returns : goal.returns
returns c = let clear = c.clear in
    let put-value = c.put_value in
    let args = c.args in
    λ σ h. rw clear.ensures (value_filled h args.k (omega arith) args.v.now (put-value.ensures σ h))
