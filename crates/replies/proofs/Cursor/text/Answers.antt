-- `text` meets its contract: the byte stands behind what is copied.
use mathlib.Core.Path.{refl}
use Rattle.replies.proofs.Lines.{put_fits, put_then}
use borrow.Author.Rules.{rules}
use Rattle.replies.proofs.Cursor.text.Goals as goal

pub returns : goal.returns
returns c = put_then (put_fits (search rules) refl refl c.copy_in.ensures) c.byte.ensures (search rules)
