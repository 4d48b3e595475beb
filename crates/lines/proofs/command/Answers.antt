-- `command` meets its contract: the shape, the numbers and what ends the line, in the order of `command_line`.
use Rattle.std.proofs.Common.{get_or, sym, ◌∙◌}
use Rattle.lines.specs.Fields.{fields_at, ending}
use Rattle.lines.specs.Lines.{shape_of, command_line}
use Rattle.lines.specs.declared.Line.{Line}
use Rattle.lines.proofs.Saying.{gives_none, GivesBy, gives_valued}
use Rattle.lines.proofs.command.Goals as goal
use Rattle.lines.proofs.command.Goals.{In_ok-a}

pub returns-in_err-shape : goal.returns-in_err-shape
unfolding command_line
returns-in_err-shape c = rw (sym c.shape_of.ensures ∙ c.in_err-shape.was, c.from_residual.ensures) (gives_none _)

pub returns-in_err-a : goal.returns-in_err-a
unfolding command_line
returns-in_err-a c =
    rw (sym c.shape_of.ensures ∙ c.in_ok-shape.was, c.numbers.ensures, c.in_err-a.was, c.from_residual-in_err-a.ensures) (gives_none _)

-- behind the numbers what is given is by what ends the line
by-ending : (c : In_ok-a)
    → let a = c.args in
    let n = c.in_ok-a.field-0-0 in
    let shape = c.in_ok-shape.shape in
    GivesBy (ending shape.valued (fields_at a.line.now c.in_ok-a.next)) (command_line a.time (shape_of a.letter) (fields_at a.line.now a.at))
    (Line.Command shape.number a.time (get_or n 0 0) (get_or n 1 0) (get_or n 2 0) (get_or n 3 0)) a.value.now
unfolding command_line
by-ending c y r after e q =
    rw (sym c.shape_of.ensures ∙ c.in_ok-shape.was, c.numbers.ensures, c.in_ok-a.was)
    (gives_valued (ending c.in_ok-shape.shape.valued (fields_at c.args.line.now c.in_ok-a.next)) _ y r after e q)

pub returns-in_err-length : goal.returns-in_err-length
returns-in_err-length c =
    rw c.from_residual-in_err-length.ensures (by-ending (goal.at.returns-in_err-length c).In_ok-a _ _ _ c.ending.ensures c.in_err-length.was)

pub returns : goal.returns
returns c = by-ending (goal.at.returns c).In_ok-a _ _ _ c.ending.ensures c.in_ok-length.was
