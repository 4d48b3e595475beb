-- Mark and length, then the 64 bytes of the value, are the record's value.
use native.Mathlib.Omega.{arith}
use mathlib.Core.Option.{some}
use Rattle.layout.proofs.Parts.{value_put}
use Rattle.keys.proofs.put_value.Goals as goal

pub returns : goal.returns
returns c = let store-value = c.store_value in
    let store_pair = c.store_pair in
    let args = c.args in
    λ σ h. rw (store-value.ensures, store_pair.ensures) (value_put h args.k (omega arith) (some args.v.now) (omega arith))
