-- Only a LEASE is noted, on the key that the command asks for.
use mathlib.Core.Path.{◌∙◌}
use Rattle.rules.proofs.Told.{noted-none, noted-grant}
use Rattle.rules.proofs.note_grant.Goals as goal

pub returns-then-word-ne-LEASE : goal.returns-then-word-ne-LEASE
returns-then-word-ne-LEASE c = noted-none c.args.book.now c.args.command c.args.word c.if-word-ne-LEASE.true

pub returns : goal.returns
returns c =
    let asks-for = c.asks_for in
    let if1 = c.if-word-ne-LEASE in
    let args = c.args in
    c.grant.ensures ∙ noted-grant args.book.now args.command args.word _ if1.false asks-for.ensures
