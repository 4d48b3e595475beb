-- The closure says of each session whether it is due.
use borrow.Author.Rules.{rules}
use borrow.Author.Tests.{tests}
use Rattle.machine.specs.State.{no_session}
use Rattle.layout.proofs.Scans.{any_told}
use Rattle.sweep.proofs.sessions_lapse.Goals as goal

pub returns : goal.returns
returns c = λ σ h. any_told _ no_session _ h.fits.sessions c.any.ensures.ran (λ x b q k. search (rules, tests))
