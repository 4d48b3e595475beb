-- The rows of the session end, what they staged is cached, and its place is freed: that is `finish` (`finish-whole`).
use Rattle.endings.proofs.Whole.{finish-whole}
use Rattle.endings.proofs.finish.Goals as goal

pub returns : goal.returns
returns c = λ σ h ok here. rw (← finish-whole σ ok _ _ here) (c.end.ensures σ h)
