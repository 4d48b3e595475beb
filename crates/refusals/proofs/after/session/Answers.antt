-- The search for the number and the deadline of the one found decide who is left.
use Rattle.std.specs.Prelude.{if◌then◌else◌}
use mathlib.Core.Bool.{Bool, true}
use mathlib.Core.Path.{◌≡◌, sym, ap, ◌∙◌}
use Rattle.machine.specs.State.{no_session, session, State, session_of}
use Rattle.machine.specs.Expiry.{expire}
use Rattle.machine.specs.Sound.{sound}
use Rattle.layout.specs.Holds.{Holds}
use Rattle.refusals.specs.Left.{left_of}
use Rattle.refusals.proofs.Lefts.{left-none, left_by}
use Rattle.refusals.proofs.after.session.Goals as goal
use Rattle.refusals.proofs.after.session.Goals.{After-due}

pub returns-in_default : goal.returns-in_default
returns-in_default c = λ σ h ok. ap left_of (sym (left-none σ ok _ _ (sym (c.find.ensures.0 σ h) ∙ c.in_default.is)))

-- by whether the session that was loaded is due
left-told : (c : After-due) {t : Bool} → c.due.result ≡ t → (σ : State) → let a = c.args in Holds a.s.now σ → sound σ ≡ true
    → left_of (if t then no_session else session c.load-x.result) ≡ left_of (session_of (expire a.time σ) a.n)
left-told c e σ h ok =
    let load = c.load-x in
    let i = c.in-Some in
    let find = c.find in
    ap left_of (sym (left_by σ ok _ _ (sym (find.ensures.0 σ h) ∙ i.is) (load.ensures σ h) (sym c.due.ensures ∙ e)))

pub returns-then-due : goal.returns-then-due
returns-then-due c = left-told (goal.at.returns-then-due c).After-due c.if-due.true

pub returns : goal.returns
returns c = left-told (goal.at.returns c).After-due c.if-due.false
