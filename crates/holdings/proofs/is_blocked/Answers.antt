-- The key is blocked unless the decision table grants I against what is held on it.
use mathlib.Core.Path.{ap}
use mathlib.Core.Bool.{not}
use Rattle.machine.specs.Refusals.{blocked}
use Rattle.holdings.proofs.is_blocked.Goals as goal

pub returns : goal.returns
unfolding blocked
returns c = λ σ h e. ap not (c.grants.ensures σ h e)
