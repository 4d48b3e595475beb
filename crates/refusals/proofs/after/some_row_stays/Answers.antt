-- The closure says of each row whether it stays on the key.
use borrow.Author.Rules.{rules}
use borrow.Author.Tests.{tests}
use Rattle.machine.specs.State.{no_row}
use Rattle.layout.proofs.Scans.{any_told}
use Rattle.refusals.proofs.after.some_row_stays.Goals as goal

pub returns : goal.returns
returns c = λ σ h. any_told _ no_row _ h.fits.rows c.any.ensures.ran (λ x b q k. search (rules, tests))
