-- `text_of` meets its contract: a number that is none of the words' before it has the last (`name_rest` of `Names`).
use Rattle.std.proofs.Common.{sym, arith}
use Rattle.replies.proofs.Names.{name_rest}
use Rattle.replies.proofs.text_of.Goals as goal

pub returns-in_default : goal.returns-in_default
returns-in_default c = sym (name_rest c.args.word (omega arith))
