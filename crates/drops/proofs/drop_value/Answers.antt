-- Where there is no value the mark, the length and the 64 bytes are zero (`value_put`).
use mathlib.Core.Option.{none}
use native.Mathlib.Omega.{arith}
use Rattle.layout.proofs.Parts.{value_put}
use Rattle.drops.proofs.drop_value.Goals as goal

pub returns : goal.returns
returns c = let clear2 = c.clear-2 in
    let clear = c.clear in
    let args = c.args in
    λ σ h. rw (clear2.ensures, clear.ensures) (value_put h args.k (omega arith) none tt)
