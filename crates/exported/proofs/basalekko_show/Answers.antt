-- SHOW's answer, told as numbers.
use Rattle.exported.proofs.basalekko_show.Goals as goal

pub returns : goal.returns
returns c = rw (← c.show-answer.ensures) c.tell.ensures
