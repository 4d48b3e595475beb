-- An A line counts only before START has answered READY.
use mathlib.Core.Path.{sym, ◌∙◌}
use Rattle.rehearsal.proofs.Turns.{says_here, not_taken, start_late, start_first}
use Rattle.rehearsal.proofs.start.Goals as goal

pub returns-then-started : goal.returns-then-started
returns-then-started c = not_taken _ _ _ _ c.unreadable.ensures (start_late _ _ _ _ (sym c.started.ensures ∙ c.if-started.true))

pub returns : goal.returns
returns c =
    let begin = c.begin in
    let if1 = c.if-started in
    let started = c.started in
    let args = c.args in
    rw (start_first args.cache.now args.book.now args.read args.write (sym started.ensures ∙ if1.false)) (says_here begin.ensures)
