-- `said` meets its contract: a first field `A` is a start, and any other line begins with the time.
use Rattle.std.proofs.Common.{sym, arith}
use borrow.Author.Tests.{eq-eqb, ne_eqb}
use Rattle.lines.specs.Lines.{start_letter}
use Rattle.lines.proofs.Cutting.{fields_in}
use Rattle.lines.proofs.Saying.{gives_unvalued}
use Rattle.lines.proofs.said.Goals as goal

pub returns-in_default : goal.returns-in_default
returns-in_default c = rw (sym (fields_in c.args.line.now 0 (omega arith)), c.letter_at.ensures, c.in_default.is) c.timed.ensures

pub returns-then-first-eq-START : goal.returns-then-first-eq-START
returns-then-first-eq-START c =
    rw (sym (fields_in c.args.line.now 0 (omega arith)), c.letter_at.ensures, c.in-Some.is, eq-eqb c.in-Some.first start_letter c.if-first-eq-START.true)
    (gives_unvalued _ _ _ c.start.ensures)

pub returns : goal.returns
returns c =
    rw (sym (fields_in c.args.line.now 0 (omega arith)), c.letter_at.ensures, c.in-Some.is, ne_eqb c.in-Some.first start_letter c.if-first-eq-START.false)
    c.timed-2.ensures
