-- The value is written, and zeros behind it.
use mathlib.Core.Path.{◌∙◌}
use Rattle.layout.proofs.Parts.{padded_put}
use borrow.Author.Rules.{rules}
use Rattle.layout.proofs.store_value.Goals as goal

pub returns : goal.returns
returns c =
    let copy-in = c.copy_in in
    let args = c.args in
    c.clear.ensures ∙ rw copy-in.ensures (padded_put args.s.now args.v.now args.at (search rules) (search rules))
