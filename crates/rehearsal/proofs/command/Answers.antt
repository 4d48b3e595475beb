-- A command counts only after START has answered READY; then its number decides.
use Rattle.lent.proofs.Choices.{test_failed, test_passed}
use Rattle.rehearsal.proofs.Turns.{says_here, not_taken, command_early, command_is, command_unknown}
use Rattle.rehearsal.proofs.command.Goals as goal

pub returns-then-not-started : goal.returns-then-not-started
returns-then-not-started c =
    let a = c.args in
    not_taken _ _ _ _ c.unreadable.ensures (command_early a.cache.now a.book.now a.time a.command a.value.now
    (test_failed c.started.ensures c.if-not-started.true))

pub returns-in-Some : goal.returns-in-Some
returns-in-Some c =
    let a = c.args in
    rw (command_is a.cache.now a.book.now a.time a.command _ a.value.now
    c.in-Some.is
    (test_passed c.started.ensures c.if-not-started.false))
    (says_here c.run.ensures)

pub returns-in-None : goal.returns-in-None
returns-in-None c =
    let a = c.args in
    not_taken _ _ _ _ c.unreadable-in-None.ensures (command_unknown a.cache.now a.book.now a.time a.command a.value.now c.in-None.is
    (test_passed c.started.ensures c.if-not-started.false))
