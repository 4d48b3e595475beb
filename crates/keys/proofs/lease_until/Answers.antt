-- The record's deadline is that of the I lease.
use mathlib.Core.Path.{◌∙◌}
use native.Mathlib.Omega.{arith}
use Rattle.layout.proofs.Held.{until_held}
use Rattle.keys.proofs.lease_until.Goals as goal

pub returns : goal.returns
returns c = λ σ h. c.load_u64.ensures ∙ until_held h c.args.k (omega arith)
