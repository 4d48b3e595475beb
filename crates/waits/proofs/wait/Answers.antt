-- An I lease decides, and where there is none the rows.
use mathlib.Core.Path.{◌≡◌, sym, ◌∙◌}
use native.Mathlib.Omega.{arith}
use Rattle.machine.specs.State.{State}
use Rattle.machine.specs.Effects.{life_end, less_now, wait}
use Rattle.machine.specs.declared.Life.{Life}
use Rattle.layout.specs.Holds.{Holds}
use Rattle.layout.proofs.Held.{key_stands}
use Rattle.waits.proofs.Waits.{wait_lease, wait_rows}
use Rattle.waits.proofs.wait.Goals as goal
use Rattle.waits.proofs.wait.Goals.{After-latest-life}

pub returns-then-lease_token-ne0 : goal.returns-then-lease_token-ne0
returns-then-lease_token-ne0 c = λ σ h. let a = c.args in
    c.less_now.ensures ∙ rw (c.lease_until.ensures σ h) (sym (wait_lease σ a.k a.time (λ q. c.if-lease_token-ne0.true (c.lease_token.ensures σ h ∙ q))))

-- there is no lease, and the rows' life is d
rows-wait : (c : After-latest-life) {d : Life} → c.latest-life.result ≡ d → (σ : State) → let a = c.args in Holds a.s.now σ → less_now (life_end d) a.time ≡ wait σ a.k a.time
rows-wait c e σ h =
    let a = c.args in
    sym (wait_rows σ a.k a.time (key_stands h a.k (omega arith)).fits.lease (sym (c.lease_token.ensures σ h) ∙ c.if-lease_token-ne0.false) ∙ rw (← c.latest-life.ensures σ h, e))

pub returns-in_default : goal.returns-in_default
returns-in_default c = rows-wait (goal.at.returns-in_default c).After-latest-life c.in_default.is

pub returns : goal.returns
returns c = λ σ h. c.less_now-2.ensures ∙ rows-wait (goal.at.returns c).After-latest-life c.in-Open.is σ h
