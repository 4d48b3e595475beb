-- The record's length byte says the length of the value.
use mathlib.Core.Path.{◌∙◌}
use native.Mathlib.Omega.{arith}
use Rattle.layout.proofs.Held.{value_long}
use Rattle.keys.proofs.value_length.Goals as goal

pub returns : goal.returns
returns c = (λ σ h. c.index.ensures.0 ∙ value_long h c.args.k (omega arith), c.index.ensures.1)
