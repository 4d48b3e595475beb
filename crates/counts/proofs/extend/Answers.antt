-- `extend` meets its contract: each refusal is a test of `extended` that fails.
use Rattle.std.proofs.Common.{arith}
use Rattle.counts.proofs.Reading.{extended_low, extended_high, extended_past, extended_is}
use Rattle.counts.proofs.extend.Goals as goal

pub returns-then-not-is_ascii_digit : goal.returns-then-not-is_ascii_digit
returns-then-not-is_ascii_digit c = grind (arith, extended_low c.args.a c.args.b, extended_high c.args.a c.args.b)

pub returns-in_err-checked_mul : goal.returns-in_err-checked_mul
returns-in_err-checked_mul c = grind (arith, extended_past c.args.a c.args.b)

pub returns : goal.returns
returns c = grind (arith, extended_past c.args.a c.args.b, extended_is c.args.a c.args.b)
