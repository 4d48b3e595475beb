-- The check refuses with the empty part at the first byte, or the bytes hold a state and its part is given.
use Rattle.layout.proofs.Formed.{holds_decoded}
use Rattle.show.proofs.Formed.{unformed_shows, formed_shows}
use Rattle.show.proofs.part.Goals as goal

pub returns-in_default : goal.returns-in_default
returns-in_default c = rw (unformed_shows c.args.s.now c.in_default.ensures)

pub returns : goal.returns
returns c =
    let e = c.in-Some.ensures in
    rw (formed_shows c.args.s.now e.0) (c.part.ensures.0 _ (rw e.1 (holds_decoded c.args.s.now e.0)))
