-- The record's first byte is 1 exactly where a value is there.
use native.Mathlib.Omega.{arith}
use Rattle.layout.proofs.Held.{value_there}
use Rattle.keys.proofs.has_value.Goals as goal

pub returns : goal.returns
returns c = λ σ h. value_there h c.args.k (omega arith)
