-- The mark of DROP and 64 zeros make up a staged DROP.
use Rattle.stagings.proofs.Written.{drop_staged}
use borrow.Author.Rules.{rules}
use Rattle.stagings.proofs.stage_drop.Goals as goal

pub returns : goal.returns
returns c = λ σ h g. rw (c.clear.ensures, c.store_pair.ensures) (drop_staged h _ (search rules) g)
