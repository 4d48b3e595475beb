-- The next token is a part of the header, so its bytes alone change (`token-next_put`).
use Rattle.layout.proofs.Parts.{token-next_put}
use Rattle.header.proofs.store_next_token.Goals as goal

pub returns : goal.returns
returns c = λ σ h. rw c.store_u32.ensures (token-next_put h c.args.t c.ranges.t.fits)
