-- A cached value is the HIT; without one the key is absent.
use mathlib.Core.Path.{sym, ◌∙◌}
use Rattle.gets.proofs.Tried.{others-hit, others-absent}
use Rattle.gets.proofs.others.Goals as goal

pub returns-in-Some : goal.returns-in-Some
returns-in-Some c = λ σ h e. let a = c.args in
    others-hit σ a.time a.k _ _ h (sym (c.cached_sight-sight.ensures.0 σ h) ∙ c.in-Some.is)

pub returns-in-None : goal.returns-in-None
returns-in-None c = λ σ h e. let a = c.args in
    rw (others-absent σ a.time a.k (sym (c.cached_sight-sight.ensures.0 σ h) ∙ c.in-None.is)) (c.absent.ensures σ h e)
