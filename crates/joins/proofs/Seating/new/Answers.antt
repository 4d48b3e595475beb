-- Each seat is free.
use Rattle.joins.proofs.Seats.{small_none}
use Rattle.joins.proofs.Seating.new.Goals as goal

pub invariant_of-result : goal.invariant_of-result
invariant_of-result c = record { small = small_none }
