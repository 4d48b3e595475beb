-- Each case is one of the definition's.
use mathlib.Core.Path.{sym, ap}
use Rattle.gets.specs.Got.{asked}
use Rattle.gets.proofs.asked.Goals as goal

pub returns-in-Some : goal.returns-in-Some
returns-in-Some c = sym (ap asked c.in-Some.is)
