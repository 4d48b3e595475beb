-- The part that SHOW hands back has the place and the length which are told.
use Rattle.exported.proofs.basalekko_stretch.Goals as goal

pub returns : goal.returns
returns c = rw c.part-part.ensures
