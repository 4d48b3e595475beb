-- `name` meets its contract: no word is longer than the longest.
use Rattle.std.proofs.Common.{length, ap, arith}
use Rattle.replies.proofs.Names.{name_most}
use Rattle.replies.proofs.Cursor.name.Goals as goal

pub text-requires : goal.text-requires
text-requires c = omega (arith, name_most c.args.word, ap length c.text_of.ensures)
