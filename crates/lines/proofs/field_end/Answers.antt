-- `field_end` meets its contract: no byte before the one that is found is a space, and where none is found none is left (`end_found` and `end_none` of `Cutting`).
use Rattle.std.proofs.Common.{rules}
use Rattle.lines.proofs.Cutting.{end_found, end_none}
use Rattle.lines.proofs.field_end.Goals as goal

pub returns-in-Some : goal.returns-in-Some
returns-in-Some c = end_found c.args.line.now c.args.at c.requires c.in-Some.n (search rules) (search rules) (search rules)

pub returns-in-None : goal.returns-in-None
returns-in-None c = end_none c.args.line.now c.args.at c.requires (search rules)
