-- `lapsing` is the one or the other, in this order.
use mathlib.Core.Path.{sym, ◌∙◌}
use Rattle.sweep.specs.Lapsing.{lapsing}
use Rattle.sweep.proofs.lapses.Goals as goal

pub returns-then-leases_lapse : goal.returns-then-leases_lapse
unfolding lapsing
returns-then-leases_lapse c = λ σ h. rw (sym (c.leases_lapse.ensures σ h) ∙ c.if-leases_lapse.true)

pub returns : goal.returns
unfolding lapsing
returns c = let leases-lapse = c.leases_lapse in
    λ σ h. rw (sym (leases-lapse.ensures σ h) ∙ c.if-leases_lapse.false) (c.sessions_lapse.ensures σ h)
