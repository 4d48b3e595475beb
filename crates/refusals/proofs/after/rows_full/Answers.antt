-- A free row stays free; where there is none, one is free if a row goes.
use mathlib.Core.Path.{refl, sym, ◌∙◌}
use Rattle.refusals.proofs.Rooms.{rows_full_told}
use Rattle.refusals.proofs.after.rows_full.Goals as goal

pub returns-then-is_some : goal.returns-then-is_some
returns-then-is_some c = λ σ h ok. rows_full_told σ ok _ _ (c.free_place.ensures.0 σ h) (sym c.is_some.ensures ∙ c.if-is_some.true) refl

pub returns : goal.returns
returns c = λ σ h ok. rows_full_told σ ok _ _ (c.free_place.ensures.0 σ h) (sym c.is_some.ensures ∙ c.if-is_some.false) (c.some_row_goes.ensures σ h)
