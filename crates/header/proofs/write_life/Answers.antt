-- The write lifetime is read where the header keeps it, in four bytes.
use mathlib.Core.Path.{◌∙◌}
use Rattle.layout.proofs.Held.{write_held}
use borrow.Author.Rules.{rules}
use Rattle.header.proofs.write_life.Goals as goal

pub returns : goal.returns
returns c = (λ σ h. c.load_u32.ensures ∙ write_held h, search rules)
