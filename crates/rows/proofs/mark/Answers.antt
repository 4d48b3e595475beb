-- The byte behind the kind is the mark.
use Rattle.layout.proofs.Held.{mark_held}
use borrow.Author.Rules.{rules}
use Rattle.rows.proofs.mark.Goals as goal

pub returns : goal.returns
returns c = λ σ h. mark_held h c.args.i (search rules)
