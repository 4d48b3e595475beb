-- The four bytes at the row are its session.
use Rattle.layout.proofs.Held.{owner_held}
use mathlib.Core.Path.{◌∙◌}
use borrow.Author.Rules.{rules}
use Rattle.rows.proofs.session.Goals as goal

pub returns : goal.returns
returns c = λ σ h. c.load_u32.ensures ∙ owner_held h c.args.i (search rules)
