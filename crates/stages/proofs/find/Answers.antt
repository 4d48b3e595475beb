-- The asker decides first; an open one goes on with its own number.
use Rattle.askers.proofs.Asked.{asks, asks_own}
use mathlib.Core.Path.{sym, ◌∙◌}
use Rattle.std.proofs.lemmas.Result.{err_from_is_err_and}
use Rattle.stages.proofs.Found.{staging_refused}
use Rattle.stages.proofs.find.Goals as goal

pub steps-requires : goal.steps-requires
steps-requires c = (rw c.in_ok-asker.was at c.find.ensures.1, c.requires)

pub returns-in_err-asker : goal.returns-in_err-asker
returns-in_err-asker c = let told = err_from_is_err_and c.from_residual.result c.from_residual.ensures.1 in
    rw (told.1, told.2) (λ σ h. sym (staging_refused _ _ _ _ _ _ (sym (c.find.ensures.0 σ h) ∙ c.in_err-asker.was)), tt)

pub returns : goal.returns
returns c = (
  λ σ h.
      let q = sym (c.find.ensures.0 σ h) ∙ c.in_ok-asker.was in
      rw (asks σ c.args.session _ q).number at (c.steps.ensures.0 σ h (asks_own _ _ _ q)),
  c.steps.ensures.1,
)
