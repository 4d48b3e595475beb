-- `timed` meets its contract: the time, the letter and what follows it, in the order of `timed_line`.
use borrow.Author.Tests.{eq-eqb, ne_eqb}
use Rattle.lines.specs.Lines.{timed_line}
use Rattle.lines.proofs.Saying.{gives_none}
use Rattle.lines.proofs.timed.Goals as goal

pub returns-in_err-time : goal.returns-in_err-time
unfolding timed_line
returns-in_err-time c = rw (c.number_at.ensures, c.in_err-time.was, c.from_residual.ensures) (gives_none _)

pub returns-in_err-letter : goal.returns-in_err-letter
unfolding timed_line
returns-in_err-letter c =
    rw (c.number_at.ensures, c.in_ok-time.was, c.letter_at.ensures, c.in_err-letter.was, c.from_residual-in_err-letter.ensures) (gives_none _)

pub returns-then-letter-eq-WRITE : goal.returns-then-letter-eq-WRITE
unfolding timed_line
returns-then-letter-eq-WRITE c =
    rw (c.number_at.ensures, c.in_ok-time.was, c.letter_at.ensures, c.in_ok-letter.was, eq-eqb _ _ c.if-letter-eq-WRITE.true) c.register_write.ensures

pub returns : goal.returns
unfolding timed_line
returns c =
    rw (c.number_at.ensures, c.in_ok-time.was, c.letter_at.ensures, c.in_ok-letter.was, ne_eqb _ _ c.if-letter-eq-WRITE.false) c.command.ensures
