-- A free place stays free; where there is none, one is free if a session goes.
use mathlib.Core.Path.{refl, sym, ◌∙◌}
use Rattle.refusals.proofs.Rooms.{sessions_full_told}
use Rattle.refusals.proofs.after.sessions_full.Goals as goal

pub returns-then-is_some : goal.returns-then-is_some
returns-then-is_some c = λ σ h ok. sessions_full_told σ ok _ _ (c.free_place.ensures.0 σ h) (sym c.is_some.ensures ∙ c.if-is_some.true) refl

pub returns : goal.returns
returns c = λ σ h ok. sessions_full_told σ ok _ _ (c.free_place.ensures.0 σ h) (sym c.is_some.ensures ∙ c.if-is_some.false) (c.sessions_lapse.ensures σ h)
