-- Without a free row the table is full; else the row is written there and the I lease cleared.
use mathlib.Core.Path.{sym, ◌∙◌}
use Rattle.outcome.proofs.Told.{gives}
use Rattle.quars.proofs.Tried.{grant_full, grant_room}
use Rattle.quars.proofs.grant.Goals as goal

pub returns-in_default : goal.returns-in_default
returns-in_default c = let free-place = c.free_place in
    λ σ h g. gives (grant_full _ _ _ _ h.fits.rows (sym (free-place.ensures.0 σ h) ∙ c.in_default.is)) h

pub put-requires : goal.put-requires
put-requires c = rw c.in-Some.is at c.free_place.ensures.1

pub returns : goal.returns
returns c = let drop-lease = c.drop_lease in
    let put = c.put in
    let i = c.in-Some in
    let free-place = c.free_place in
    let args = c.args in
    λ σ h g. gives (grant_room σ args.n args.k args.kind h.fits.rows _ (sym (free-place.ensures.0 σ h) ∙ i.is)) (rw c.from.ensures at drop-lease.ensures _ (put.ensures σ h g))
