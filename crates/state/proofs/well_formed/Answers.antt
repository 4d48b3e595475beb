-- A buffer that is opened is well formed.
use mathlib.Core.Path.{◌∙◌}
use Rattle.state.proofs.Whole.{opened_told}
use Rattle.state.proofs.well_formed.Goals as goal

pub returns : goal.returns
returns c = c.is_some.ensures ∙ opened_told _ c.opened.result c.opened.ensures
