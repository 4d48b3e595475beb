-- A refusal after expiry is the step's, with the state as it came; without one the sweep makes the state the expired one, on which the command acts.
use mathlib.Core.Path.{sym, ◌∙◌}
use Rattle.machine.proofs.KeepsSound.{expire-sound}
use Rattle.cache.proofs.Taken.{refused-expired, accepted_expired}
use Rattle.cache.proofs.lapsing.Goals as goal

pub returns-in-Err : goal.returns-in-Err
returns-in-Err c = λ σ h ok. refused-expired σ _ _ _ (sym (c.find.ensures σ h ok) ∙ c.in-Err.is) h

pub returns-in-Ok : goal.returns-in-Ok
returns-in-Ok c =
    let sweep = c.sweep in
    let enum_told = c.in-Ok in
    let find = c.find in
    λ σ h ok. accepted_expired σ _ _ _ (sym (find.ensures σ h ok) ∙ enum_told.is)
    (c.still.ensures _ (sweep.ensures σ h ok) (expire-sound σ _ ok))
