-- The reply is the one that START gives, its answer told as numbers.
use Rattle.exported.proofs.basalekko_start.Goals as goal

pub returns : goal.returns
returns c = let reply = c.start-answer.ensures in record { said = rw (← reply.0) c.tell.ensures; bytes = reply.1 }
