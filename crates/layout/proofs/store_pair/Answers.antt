-- Two stores in a row.
use Rattle.lent.proofs.Stores.{stores2}
use borrow.Author.Rules.{rules}
use Rattle.layout.proofs.store_pair.Goals as goal

pub returns : goal.returns
returns c = stores2 _ _ _ _ (search rules)
