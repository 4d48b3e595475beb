-- `end` prints the library's end line: it stands at the front of the part that is lent for it, and fits it.
use native.Mathlib.Omega.{arith}
use Rattle.script.proofs.Library.{end_printed}
use borrow.Author.Rules.{rules}
use Rattle.script.proofs.end.Goals as goal

pub overflow_add-result : goal.overflow_add-result
overflow_add-result c = let p = end_printed _ _ _ c.requires _ _ (search rules) c.end-n.ensures in omega (arith, c.requires, p.1)

pub returns : goal.returns
returns c = (end_printed _ _ _ c.requires _ _ (search rules) c.end-n.ensures).0
