-- The rows of the session end, the values stay, and its place is freed: that is `leave` (`leave-whole`).
use Rattle.endings.proofs.Whole.{leave-whole}
use Rattle.endings.proofs.leave.Goals as goal

pub returns : goal.returns
returns c = λ σ h ok here. rw (← leave-whole σ ok _ _ here) (c.end.ensures σ h)
