-- A C line counts only after START has answered READY; then it is the write.
use Rattle.lent.proofs.Choices.{test_failed, test_passed}
use Rattle.rehearsal.proofs.Turns.{says_here, not_taken, write_early, write_started}
use Rattle.rehearsal.proofs.write.Goals as goal

pub returns-then-not-started : goal.returns-then-not-started
returns-then-not-started c = λ l. not_taken _ _ _ _ c.unreadable.ensures (write_early _ _ _ _ l _ (test_failed c.started.ensures c.if-not-started.true))

pub returns : goal.returns
returns c =
    let if1 = c.if-not-started in
    let started = c.started in
    let args = c.args in
    λ l. rw (write_started args.cache.now args.book.now args.session args.key l args.value.now (test_passed started.ensures if1.false))
    (says_here c.write.ensures)
