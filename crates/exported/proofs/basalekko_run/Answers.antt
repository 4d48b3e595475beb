-- The reply is the one that the command by number gives, its answer told as numbers.
use Rattle.exported.proofs.basalekko_run.Goals as goal

pub returns : goal.returns
returns c = let reply = c.run_numbered-answer.ensures in record { said = rw (← reply.0) c.tell.ensures; bytes = reply.1 }
