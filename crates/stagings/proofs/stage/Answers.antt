-- Mark with length, and the value with zeros behind it, make up a staged value.
use Rattle.stagings.proofs.Written.{value_staged}
use borrow.Author.Rules.{rules}
use Rattle.stagings.proofs.stage.Goals as goal

pub returns : goal.returns
returns c = let store-value = c.store_value in
    let store_pair = c.store_pair in
    let args = c.args in
    λ σ h g. rw (store-value.ensures, store_pair.ensures) (value_staged h args.i (search rules) args.v.now (search rules) g)
