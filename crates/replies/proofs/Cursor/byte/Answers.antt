-- `byte` meets its contract: a store is a stretch of one byte.
use mathlib.Core.Path.{refl}
use Rattle.lent.proofs.Splice.{set-splice}
use borrow.Author.Rules.{rules}
use Rattle.replies.proofs.Lines.{put_fits}
use Rattle.replies.proofs.Cursor.byte.Goals as goal

pub returns : goal.returns
returns c = put_fits c.requires refl refl (set-splice _ _ _ (search rules))
