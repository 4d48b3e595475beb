-- Session 0 has no row, and a search for any other is one of the table.
use Rattle.lookups.proofs.Tests.{of_search, none-zero}
use mathlib.Core.Path.{sym, ◌∙◌}
use Rattle.lookups.proofs.find.Goals as goal

pub returns-then-n-eq0 : goal.returns-then-n-eq0
returns-then-n-eq0 c = (λ σ h. rw c.if-n-eq0.true (sym (none-zero h _)), tt)

pub returns : goal.returns
returns c = (λ σ h. c.search.ensures.0 ∙ of_search h c.args.n c.args.k c.if-n-eq0.false, c.search.ensures.1)
