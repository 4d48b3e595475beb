-- The next session number is a part of the header, so its bytes alone change (`session_next_put`).
use Rattle.layout.proofs.Parts.{session_next_put}
use Rattle.header.proofs.store_next_session.Goals as goal

pub returns : goal.returns
returns c = λ σ h. rw c.store_u32.ensures (session_next_put h c.args.n c.ranges.n.fits)
