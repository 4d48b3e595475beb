-- The check refuses, or the bytes hold a state and its answer is given.
use Rattle.layout.proofs.Formed.{holds_decoded}
use Rattle.show.proofs.Formed.{unformed_shows, formed_shows}
use Rattle.show.proofs.show.Goals as goal

pub returns-in_default : goal.returns-in_default
returns-in_default c = rw (unformed_shows c.args.s.now c.in_default.ensures)

pub returns : goal.returns
returns c =
    let e = c.in-Some.ensures in
    rw (formed_shows c.args.s.now e.0) (c.show.ensures _ (rw e.1 (holds_decoded c.args.s.now e.0)))
