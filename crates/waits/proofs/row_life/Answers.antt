-- A free row and one on another key add nothing; one on the key adds the life of its session, if the search finds it.
use Rattle.std.specs.Prelude.{ℕ, Option}
use mathlib.Core.Path.{◌≡◌, sym, ap, ◌∙◌}
use native.Mathlib.Omega.{arith}
use Prim.Native.Nat.{◌<◌}
use Rattle.machine.specs.Sizes.{session_count}
use Rattle.machine.specs.State.{State, row_at}
use Rattle.machine.specs.Effects.{life_end, slot_end}
use Rattle.machine.specs.declared.Session.{Session}
use Rattle.layout.specs.Holds.{Holds}
use Rattle.layout.proofs.Held.{row_stands}
use Rattle.layout.proofs.Slots.{slot_by, session_by}
use Rattle.waits.specs.Waits.{row_end}
use Rattle.waits.proofs.Waits.{row_end_free, row_end_other, row_end_on}
use Rattle.waits.proofs.row_life.Goals as goal
use Rattle.waits.proofs.row_life.Goals.{After-find-place}

pub returns-then-n-eq0 : goal.returns-then-n-eq0
returns-then-n-eq0 c = λ σ h. let a = c.args in
    sym (row_end_free σ a.k (row_at σ a.i) (row_stands h a.i (omega arith)).fits (sym (c.session-n.ensures σ h) ∙ c.if-n-eq0.true))

pub returns-then-key-k : goal.returns-then-key-k
returns-then-key-k c = λ σ h. let a = c.args in
    sym (row_end_other σ a.k (row_at σ a.i) (λ q. c.if-key-k.true (c.key.ensures.0 σ h ∙ q)))

-- the row is on the key, and the search for its session told d
ends_by : (c : After-find-place) {d : Option ℕ} → c.find-place.result ≡ d → (σ : State) → let a = c.args in Holds a.s.now σ → slot_end (slot_by σ d) ≡ row_end σ a.k (row_at σ a.i)
ends_by c e σ h =
    let if2 = c.if-key-k in
    let key = c.key in
    let if1 = c.if-n-eq0 in
    let session = c.session-n in
    let a = c.args in
    sym (row_end_on σ a.k (row_at σ a.i) (λ q. if1.false (session.ensures σ h ∙ q)) (sym (key.ensures.0 σ h) ∙ if2.false)
    ∙ rw (← session.ensures σ h, ← c.from.ensures) (ap slot_end (session_by σ c.from.result h.fits.sessions (sym (c.find-place.ensures.0 σ h) ∙ e))))

pub returns-in_default : goal.returns-in_default
returns-in_default c = ends_by (goal.at.returns-in_default c).After-find-place c.in_default.is

pub load-x-requires : goal.load-x-requires
load-x-requires c = let l : c.in-Some.j < session_count = rw c.in-Some.is at c.find-place.ensures.1 in omega arith

pub returns : goal.returns
returns c = λ σ h. ap (λ (x : Session). life_end x.life) (c.load-x.ensures σ h) ∙ ends_by (goal.at.returns c).After-find-place c.in-Some.is σ h
