-- Where n stands once, its places joined are that place plus 1; where it stands nowhere, they are 0.
use Rattle.joins.proofs.Lookup.{first-joined}
use Rattle.joins.proofs.Seating.find.Goals as goal

pub returns : goal.returns
returns c = let a = c.args in first-joined a.self.now.numbers a.n c.requires (rw c.places.ensures at c.checked_sub.ensures)
