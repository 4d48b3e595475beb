-- A place that was tested is the first of n, since it stands once.
use Rattle.order.proofs.Standing.{ordered_stood}
use Rattle.joins.proofs.Lookup.{first_stood}
use Rattle.joins.proofs.Seating.place.Goals as goal

pub returns-in-Some : goal.returns-in-Some
returns-in-Some c = first_stood c.args.self.now.numbers c.args.n c.requires c.in-Some.ensures

pub returns-in-Some-ordered : goal.returns-in-Some-ordered
returns-in-Some-ordered c = let a = c.args in
    first_stood a.self.now.numbers a.n c.requires (rw (← c.in-Some-ordered.ensures) at (ordered_stood a.self.now.numbers a.self.now.order a.n))
