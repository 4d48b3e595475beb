-- 0 asks for no session and is never unknown; any other number is live where a place has it.
use mathlib.Core.Path.{◌≡◌, refl, sym, ap, ◌∙◌}
use mathlib.Core.Bool.{not, ◌&&◌}
use Rattle.std.proofs.Math.Bool.{not-not}
use lib.Dec.{eqb}
use Rattle.machine.specs.Refusals.{not_live}
use Rattle.sights.proofs.Known.{known_zero, known_by, none_free}
use Rattle.sights.proofs.is_unknown.Goals as goal

pub returns-then-session-eq0 : goal.returns-then-session-eq0
returns-then-session-eq0 c = λ σ h. sym (known_zero σ c.args.session c.if-session-eq0.true)

-- where the number is not 0, what the search told decides
pub returns : goal.returns
returns c = λ σ h.
    let found = c.find.result in
    let e : c.is_none.result ≡ (not (eqb c.args.session 0) && not_live σ c.args.session) =
    sym (not-not _) ∙ ap not (sym c.is_none.ensures) ∙ none_free σ found ∙ sym (known_by σ _ c.if-session-eq0.false h.fits.sessions (sym (c.find.ensures.0 σ h) ∙ refl))
    in
    simp e
