-- Token and deadline, written one after the other, are the record's lease.
use Rattle.keys.proofs.Written.{lease_written}
use borrow.Author.Rules.{rules}
use Rattle.keys.proofs.put_lease.Goals as goal

pub returns : goal.returns
returns c = λ σ h g. rw (c.store_u64.ensures, c.store_u32.ensures) (lease_written h _ (search rules) _ _ (search rules) (search rules) (search rules))
