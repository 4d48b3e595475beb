-- The closure says of each key whether its lease has lapsed.
use borrow.Author.Rules.{rules}
use borrow.Author.Tests.{tests}
use Rattle.machine.specs.State.{blank}
use Rattle.layout.proofs.Scans.{any_told}
use Rattle.sweep.proofs.leases_lapse.Goals as goal

pub returns : goal.returns
returns c = λ σ h. any_told _ blank _ h.fits.keys c.any.ensures.ran (λ x b q k. search (rules, tests))
