-- The read lifetime is read where the header keeps it, in four bytes.
use mathlib.Core.Path.{◌∙◌}
use Rattle.layout.proofs.Held.{read_held}
use borrow.Author.Rules.{rules}
use Rattle.header.proofs.read_life.Goals as goal

pub returns : goal.returns
returns c = (λ σ h. c.load_u32.ensures ∙ read_held h, search rules)
