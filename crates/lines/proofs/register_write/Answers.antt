-- `register_write` meets its contract: the key is tested before the value is read, and `last_value` refuses a value that is too long before it writes.
use Rattle.std.proofs.Common.{get_or, rules}
use borrow.Author.Tests.{lt-ltb, le-ltb}
use Rattle.lines.specs.Fields.{fields_at, last_value}
use Rattle.lines.specs.Lines.{write_line, key_max, value_max}
use Rattle.lines.specs.declared.Line.{Line}
use Rattle.lines.proofs.Saying.{gives_none, GivesBy, gives_valued}
use Rattle.lines.proofs.register_write.Goals as goal
use Rattle.lines.proofs.register_write.Goals.{Else-key-gt-KEY_MAX}

pub returns-in_err-session : goal.returns-in_err-session
unfolding write_line
returns-in_err-session c = rw (c.numbers.ensures, c.in_err-session.was, c.from_residual.ensures) (gives_none _)

pub returns-then-key-gt-KEY_MAX : goal.returns-then-key-gt-KEY_MAX
unfolding write_line
returns-then-key-gt-KEY_MAX c =
    rw (c.numbers.ensures, c.in_ok-session.was, lt-ltb key_max (get_or c.in_ok-session.field-0-0 1 0) (search rules)) (gives_none _)

-- behind a key in range what is given is by the value
by_value : (c : Else-key-gt-KEY_MAX)
    → let a = c.args in
    let n = c.in_ok-session.field-0-0 in
    GivesBy (last_value value_max (fields_at a.line.now c.in_ok-session.next)) (write_line (fields_at a.line.now a.at)) (Line.Write (get_or n 0 0) (get_or n 1 0)) a.value.now
unfolding write_line
by_value c y r after e q =
    rw (c.numbers.ensures, c.in_ok-session.was, le-ltb key_max (get_or c.in_ok-session.field-0-0 1 0) c.if-key-gt-KEY_MAX.false)
    (gives_valued (last_value value_max (fields_at c.args.line.now c.in_ok-session.next)) _ y r after e q)

pub returns-in_err-length : goal.returns-in_err-length
returns-in_err-length c =
    rw c.from_residual-in_err-length.ensures (by_value (goal.at.returns-in_err-length c).Else-key-gt-KEY_MAX _ _ _ c.last_value.ensures c.in_err-length.was)

pub returns : goal.returns
returns c = by_value (goal.at.returns c).Else-key-gt-KEY_MAX _ _ _ c.last_value.ensures c.in_ok-length.was
