-- `last_value` meets its contract: the field is the last where it ends with the line; its length is known before a byte is written, so that the buffer stays where the value is refused.
use Rattle.std.proofs.Common.{◌-◌, ◌≡◌, ◌∙◌, take, drop, arith, rules}
use Rattle.hex_text.specs.Hex.{read_hex}
use Rattle.lines.specs.Fields.{fields_at, up_to, last_value}
use Rattle.lines.proofs.Saying.{value_past, value_not_last, value_last, up_to_not, up_to_long, up_to_all, unread}
use Rattle.lines.proofs.last_value.Goals as goal
use Rattle.lines.proofs.last_value.Goals.{After-length}

pub returns-then-line-at : goal.returns-then-line-at
returns-then-line-at c = unread (value_past _ _ _ (search rules))

pub returns-then-e-line : goal.returns-then-e-line
returns-then-e-line c = unread (value_not_last _ _ _ _ c.field_end-e.ensures (search rules))

-- the field is the last, and is read
value-is : (c : After-length)
    → let a = c.args in
    let field = take (c.field_end-e.result - a.at) (drop a.at a.line.now) in
    last_value a.most (fields_at a.line.now a.at) ≡ up_to a.most (read_hex field)
value-is c = value_last _ _ _ _ c.field_end-e.ensures (omega arith)

pub returns-in_err-n : goal.returns-in_err-n
returns-in_err-n c = rw c.from_residual.ensures (unread (value-is (goal.at.returns-in_err-n c).After-length ∙ rw (up_to_not c.args.most _ c.length.result c.length.ensures c.in_err-n.was)))

pub returns-then-most-n : goal.returns-then-most-n
returns-then-most-n c = unread (value-is (goal.at.returns-then-most-n c).After-length ∙ rw (up_to_long c.args.most _ c.length.result c.length.ensures _ c.in_ok-n.was (search rules)))

pub returns : goal.returns
returns c =
    let most = c.args.most in
    rw (value-is (goal.at.returns c).After-length, up_to_all most _ c.length.result c.length.ensures _ c.in_ok-n.was (search rules)) c.read.ensures
