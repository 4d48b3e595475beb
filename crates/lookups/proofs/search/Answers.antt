-- The closure says of each row whether it passes.
use borrow.Author.Rules.{rules}
use borrow.Author.Tests.{tests}
use Rattle.layout.proofs.Search.{first_told}
use Rattle.lookups.proofs.search.Goals as goal

pub returns : goal.returns
returns c = first_told _ _ _ c.find.ensures.ran (λ x b q k. search (rules, tests))
