-- The byte behind the key is the kind.
use Rattle.layout.proofs.Held.{kind_held}
use borrow.Author.Rules.{rules}
use Rattle.rows.proofs.kind.Goals as goal

pub returns : goal.returns
returns c = λ σ h. kind_held h c.args.i (search rules)
