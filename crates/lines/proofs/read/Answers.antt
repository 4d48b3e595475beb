-- `read` meets its contract: a long line is refused unread, and any other is read by its first field.
use Rattle.std.proofs.Common.{rules, length, refl, sym}
use borrow.Author.Tests.{lt-ltb, le-ltb}
use Rattle.lent.proofs.Splice.{splice-none}
use Rattle.lines.specs.Fields.{line_max}
use Rattle.lines.specs.Lines.{read_line}
use Rattle.lines.proofs.Saying.{gives_read}
use Rattle.lines.proofs.read.Goals as goal

pub returns-then-line-gt-LINE_MAX : goal.returns-then-line-gt-LINE_MAX
unfolding read_line
returns-then-line-gt-LINE_MAX c =
    rw (lt-ltb line_max (length c.args.line.now) (search rules)) (record { line = refl; value = sym (splice-none _ _) })

pub returns : goal.returns
unfolding read_line
returns c = rw (le-ltb line_max (length c.args.line.now) (search rules), c.unwrap_or.ensures) (gives_read _ _ _ _ c.said.ensures)
