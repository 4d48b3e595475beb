-- The lease with the token, and the next token after it, are what `leased` sets.
use Rattle.gets.proofs.Tried.{lease_gives}
use borrow.Author.Rules.{rules}
use Rattle.gets.proofs.lease.Goals as goal

pub returns : goal.returns
returns c = let store-next-token = c.store_next_token in
    let put-lease = c.put_lease in
    let read_life_lem = c.read_life in
    let args = c.args in
    λ σ h e. lease_gives σ args.time args.k args.token read_life_lem.result e (read_life_lem.ensures.0 σ h) (store-next-token.ensures _ (put-lease.ensures σ h (search rules)))
