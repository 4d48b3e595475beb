-- The byte behind the session is the key.
use Rattle.layout.proofs.Held.{target_held}
use mathlib.Core.Path.{◌∙◌}
use borrow.Author.Rules.{rules}
use Rattle.rows.proofs.key.Goals as goal

pub returns : goal.returns
returns c = (λ σ h. c.index.ensures.0 ∙ target_held h c.args.i (search rules), c.index.ensures.1)
