-- The three pieces make up the row.
use Rattle.stagings.proofs.Written.{row_put}
use borrow.Author.Rules.{rules}
use Rattle.stagings.proofs.put.Goals as goal

pub returns : goal.returns
returns c = let clear = c.clear in
    let store_pair = c.store_pair in
    let store-u32 = c.store_u32 in
    let args = c.args in
    λ σ h g. rw (clear.ensures, store_pair.ensures, store-u32.ensures) (row_put h args.i (search rules) args.session args.key args.kind g (search rules))
