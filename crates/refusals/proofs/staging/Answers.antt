-- Nobody left is NO SESSION; whoever is left finds what he finds on the state as it is.
use Rattle.machine.specs.declared.Refusal.{Refusal}
use Rattle.std.specs.Prelude.{Result}
use mathlib.Core.Bool.{not}
use mathlib.Core.Path.{◌≡◌, sym, ap, ◌∙◌}
use Rattle.machine.specs.Tables.{first}
use Rattle.machine.specs.Refusals.{staging_refusals}
use Rattle.stages.specs.declared.Staging.{Staging}
use Rattle.std.proofs.lemmas.Result.{err_from_is_err_and}
use Rattle.refusals.specs.Met.{Meets}
use Rattle.refusals.proofs.Lefts.{left_open, refusal_in, left-stages}
use Rattle.refusals.proofs.staging.Goals as goal
use Rattle.refusals.proofs.staging.Goals.{After-find}

-- the refusal is in what he finds
by-finding : (c : After-find) {r : Result Staging Refusal} → c.find.result ≡ r
    → let a = c.args in Meets a.s.now a.time (λ σ. first (staging_refusals σ a.session a.step a.k a.kind)) (refusal_in r)
by-finding c e = λ σ h ok. left-stages _ ok _ _ _ (left_open _ (c.session.ensures σ h ok) (c.is_none.ensures ∙ ap not c.if-is_none.false)).1 _ _ _ (sym (c.find.ensures.0 σ h) ∙ e)

pub returns-in_err-find : goal.returns-in_err-find
returns-in_err-find c = let told = err_from_is_err_and c.from_residual.result c.from_residual.ensures.1 in
    rw (told.1, told.2) (by-finding (goal.at.returns-in_err-find c).After-find c.in_err-find.was)

pub returns : goal.returns
returns c = by-finding (goal.at.returns c).After-find c.in_ok-find.was
