-- Expiry leaves the clock, so CLOCK is as it was; then come the command's own.
use mathlib.Core.Path.{◌∙◌}
use Rattle.machine.proofs.FirstRefusal.{clock_before, clock_past, clock_none}
use Rattle.refusals.proofs.Expired.{head_expired}
use Rattle.refusals.proofs.Lefts.{meets}
use Rattle.refusals.proofs.find.Goals as goal

pub returns-then-time-clock : goal.returns-then-time-clock
returns-then-time-clock c = λ σ h ok. meets (clock_before _ _ _ _ (rw (head_expired σ _, ← c.clock.ensures σ h) c.if-time-clock.true))

pub returns-then-time-gt-TIME_MAX : goal.returns-then-time-gt-TIME_MAX
returns-then-time-gt-TIME_MAX c = λ σ h ok. meets (clock_past _ _ _ _ c.if-time-gt-TIME_MAX.true)

pub returns : goal.returns
returns c = λ σ h ok. c.of.ensures σ h ok ∙ meets (clock_none _ _ _ _ (rw (head_expired σ _, ← c.clock.ensures σ h) c.if-time-clock.false) c.if-time-gt-TIME_MAX.false)
