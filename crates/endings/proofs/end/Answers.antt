-- The rows of the session end, which changes no session, and then its place is freed.
use Rattle.endings.specs.Ends.{end_rows}
use Rattle.endings.proofs.end.Goals as goal

pub returns : goal.returns
unfolding end_rows
returns c = let free = c.free in
    let end-rows = c.end_rows in
    λ σ h. free.ensures _ (end-rows.ensures σ h)
