-- Expiry changes the places and not the next number.
use mathlib.Core.Path.{sym, ◌∙◌}
use Rattle.refusals.proofs.Expired.{head_expired}
use Rattle.machine.proofs.FirstRefusal.{begin_full, begin_numbers, begin_none}
use Rattle.refusals.proofs.Lefts.{meets}
use Rattle.refusals.proofs.begin.Goals as goal

pub returns-then-sessions_full : goal.returns-then-sessions_full
returns-then-sessions_full c = λ σ h ok. meets (begin_full _ _ (sym (c.sessions_full.ensures σ h ok) ∙ c.if-sessions_full.true))

pub returns-then-next_session-ge-NUMBER_MAX : goal.returns-then-next_session-ge-NUMBER_MAX
returns-then-next_session-ge-NUMBER_MAX c = λ σ h ok. meets (begin_numbers _ _ (sym (c.sessions_full.ensures σ h ok) ∙ c.if-sessions_full.false) (rw (head_expired σ _, ← c.next_session.ensures σ h) c.if-next_session-ge-NUMBER_MAX.true))

pub returns : goal.returns
returns c = λ σ h ok. meets (begin_none _ _ (sym (c.sessions_full.ensures σ h ok) ∙ c.if-sessions_full.false) (rw (head_expired σ _, ← c.next_session.ensures σ h) c.if-next_session-ge-NUMBER_MAX.false))
