-- `ending` meets its contract: a value that is wanted is read by `last_value`; else no field is left exactly if the place is past the line.
use mathlib.Core.Path.{refl, sym}
use Rattle.lent.proofs.Splice.{splice-none}
use Rattle.lines.proofs.Saying.{at_end_in, at_end_past}
use borrow.Author.Rules.{rules}
use Rattle.lines.proofs.ending.Goals as goal

pub returns-then-valued : goal.returns-then-valued
returns-then-valued c = rw c.if-valued.true c.last_value.ensures

pub returns-then-at-line : goal.returns-then-at-line
returns-then-at-line c = rw (c.if-valued.false, at_end_in c.args.line.now c.args.at _ (search rules)) (refl, sym (splice-none _ _))

pub returns : goal.returns
returns c = rw (c.if-valued.false, at_end_past c.args.line.now c.args.at _ (search rules)) (refl, sym (splice-none _ _))
