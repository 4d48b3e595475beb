-- A token of 0 is no lease; any other lease is gone if it has lapsed.
use mathlib.Core.Path.{sym, ◌∙◌}
use Rattle.machine.specs.State.{lease_on}
use Rattle.layout.proofs.Held.{key_stands}
use Rattle.refusals.proofs.Leases.{leaseless-none}
use Rattle.refusals.proofs.after.is_leaseless.Goals as goal

pub returns-then-lease_token-eq0 : goal.returns-then-lease_token-eq0
returns-then-lease_token-eq0 c = λ σ h. sym (leaseless-none c.args.time (lease_on σ c.args.k) (key_stands h c.args.k c.requires).fits.lease (sym (c.lease_token.ensures σ h) ∙ c.if-lease_token-eq0.true))
