-- A search for any session is one for a row on the key.
use Rattle.lookups.proofs.Tests.{on_search}
use mathlib.Core.Path.{◌∙◌}
use Rattle.lookups.proofs.first_on.Goals as goal

pub returns : goal.returns
returns c = (λ σ h. c.search.ensures.0 ∙ on_search h c.args.k, c.search.ensures.1)
