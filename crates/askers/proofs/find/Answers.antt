-- What the search for the number finds decides: no session, a sealed one, or an open one at its place.
use Rattle.std.specs.Prelude.{if◌then◌else◌, Ok, Err}
use mathlib.Core.Path.{◌≡◌, sym, ◌∙◌}
use mathlib.Core.Bool.{Bool}
use Rattle.machine.specs.Words.{SEALED}
use Rattle.machine.specs.State.{State}
use Rattle.layout.specs.Holds.{Holds}
use Rattle.askers.specs.Asker.{asker_of}
use Rattle.askers.proofs.Asked.{asker_none, asker_at_lem}
use Rattle.askers.proofs.find.Goals as goal
use Rattle.askers.proofs.find.Goals.{After-is_sealed}

pub returns-in_default : goal.returns-in_default
returns-in_default c = (λ σ h. sym (asker_none σ h.fits.sessions _ (sym (c.find.ensures.0 σ h) ∙ c.in_default.is)), tt)

pub load-session-requires : goal.load-session-requires
load-session-requires c = rw c.in-Some.is at c.find.ensures.1

-- the session that was found and loaded decides by whether it is sealed
asker-by : (c : After-is_sealed) {t : Bool} → c.is_sealed.result ≡ t → (σ : State) → let a = c.args in Holds a.s.now σ
    → (if t then Err SEALED else Ok (record { place = c.in-Some.place; session = c.load-session.result })) ≡ asker_of σ a.n
asker-by c e σ h = sym (asker_at_lem σ h.fits.sessions _ (sym (c.find.ensures.0 σ h) ∙ c.in-Some.is) (c.load-session.ensures σ h) (sym c.is_sealed.ensures ∙ e))

pub returns-then-is_sealed : goal.returns-then-is_sealed
returns-then-is_sealed c = (asker-by (goal.at.returns-then-is_sealed c).After-is_sealed c.if-is_sealed.true, tt)

pub returns : goal.returns
returns c = (asker-by (goal.at.returns c).After-is_sealed c.if-is_sealed.false, rw c.in-Some.is at c.find.ensures.1)
