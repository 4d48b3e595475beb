-- The record's token is that of the I lease.
use mathlib.Core.Path.{◌∙◌}
use native.Mathlib.Omega.{arith}
use Rattle.layout.proofs.Held.{token_held}
use Rattle.keys.proofs.lease_token.Goals as goal

pub returns : goal.returns
returns c = λ σ h. c.load_u32.ensures ∙ token_held h c.args.k (omega arith)
