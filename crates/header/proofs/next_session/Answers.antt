-- The number is read where the header keeps it.
use mathlib.Core.Path.{◌∙◌}
use Rattle.layout.proofs.Held.{session_next_held}
use Rattle.header.proofs.next_session.Goals as goal

pub returns : goal.returns
returns c = λ σ h. c.load_u32.ensures ∙ session_next_held h
