-- The word decides both what is noted and what is told.
use Rattle.rules.proofs.Told.{concluded}
use Rattle.rules.proofs.conclude.Goals as goal

pub returns : goal.returns
returns c =
    let rule_of_lem = c.rule_of in
    let note-grant = c.note_grant in
    let as-numbers = c.from-n in
    let args = c.args in
    concluded args.book.now _ args.command args.answer _ args.risk rule_of_lem.result _ as-numbers.ensures note-grant.ensures rule_of_lem.ensures
    c.tell.ensures
