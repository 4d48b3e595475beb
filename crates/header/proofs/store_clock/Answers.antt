-- The clock is a part of the header, so its bytes alone change (`clock_put`).
use Rattle.layout.proofs.Parts.{clock_put}
use Rattle.header.proofs.store_clock.Goals as goal

pub returns : goal.returns
returns c = λ σ h. rw c.store_u64.ensures (clock_put h c.args.time c.ranges.time.fits)
