-- A search by a number that is not 0 is a search of the sessions, and 0 is none's.
use mathlib.Core.Path.{sym, ◌∙◌}
use Rattle.sessions.proofs.Slots.{session_search, none-zero}
use Rattle.sessions.proofs.find.Goals as goal

pub returns-then-n-eq0 : goal.returns-then-n-eq0
returns-then-n-eq0 c = (λ σ h. rw c.if-n-eq0.true (sym (none-zero h)), tt)

pub returns : goal.returns
returns c = (λ σ h. c.find_number.ensures.0 ∙ session_search h c.args.n c.if-n-eq0.false, c.find_number.ensures.1)
