-- A lease that has lapsed is dropped (`lease_goes`), any other stays (`lease_stays`).
use mathlib.Core.Path.{sym, ◌∙◌}
use Rattle.sweep.proofs.Steps.{lease_stays, lease_goes}
use Rattle.sweep.proofs.lapse_key.Goals as goal

pub returns-then-lease_lapsed : goal.returns-then-lease_lapsed
returns-then-lease_lapsed c = let drop-lease = c.drop_lease in
    let if1 = c.if-lease_lapsed in
    let lease-lapsed = c.lease_lapsed in
    λ σ h. rw (lease_goes _ _ σ (sym (lease-lapsed.ensures σ h) ∙ if1.true)) (drop-lease.ensures σ h)

pub returns-else-lease_lapsed : goal.returns-else-lease_lapsed
returns-else-lease_lapsed c = λ σ h. rw (lease_stays _ _ σ (sym (c.lease_lapsed.ensures σ h) ∙ c.if-lease_lapsed.false)) h
