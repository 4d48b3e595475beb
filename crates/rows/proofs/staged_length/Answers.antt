-- The byte behind the mark is the length.
use Rattle.layout.proofs.Held.{staged_long}
use mathlib.Core.Path.{◌∙◌}
use borrow.Author.Rules.{rules}
use Rattle.rows.proofs.staged_length.Goals as goal

pub returns : goal.returns
returns c = (λ σ h. c.index.ensures.0 ∙ staged_long h c.args.i (search rules), c.index.ensures.1)
