-- `store_u8` is one store.
use Rattle.std.proofs.Common.{rules}
use Rattle.lent.proofs.Splice.{set-splice}
use Rattle.lent.proofs.store_u8.Goals as goal

pub returns : goal.returns
returns c = set-splice _ _ _ (search rules)
