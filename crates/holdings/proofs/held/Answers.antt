-- A row decides, by its kind, which a sound state keeps to 1 to 3; without one, the I lease.
use Rattle.std.specs.Prelude.{if◌then◌else◌}
use mathlib.Core.Path.{◌≡◌, sym, ◌∙◌}
use mathlib.Core.Bool.{Bool}
use native.Mathlib.Omega.{arith}
use Prim.Native.Nat.{◌<◌}
use lib.Dec.{eqb}
use borrow.Author.Tests.{eq-eqb, ne_eqb}
use Rattle.machine.specs.Sizes.{row_count}
use Rattle.machine.specs.State.{State}
use Rattle.machine.specs.Refusals.{held_on}
use Rattle.layout.specs.Holds.{Holds}
use Rattle.layout.proofs.Held.{key_stands}
use Rattle.holdings.proofs.Holdings.{held_row, held_leased}
use Rattle.holdings.proofs.held.Goals as goal
use Rattle.holdings.proofs.held.Goals.{After-lease_token}

pub kind-requires : goal.kind-requires
kind-requires c = let l : c.in-Some.i < row_count = rw c.in-Some.is at c.first_on-row.ensures.1 in omega arith

pub returns-in-Some : goal.returns-in-Some
returns-in-Some c = let kind = c.kind in
    let row = c.in-Some in
    let first_on = c.first_on-row in
    let k = c.args.k in (
      λ σ h e. let r = held_row σ k row.i h.fits.rows e (sym (first_on.ensures.0 σ h) ∙ row.is) in
          c.line_of.ensures.1 (rw (kind.ensures σ h) r.1) (rw (kind.ensures σ h) r.2) ∙ rw (kind.ensures σ h) (sym r.0),
      c.line_of.ensures.0,
    )

-- no row is on the key
held_by : (c : After-lease_token) {t : Bool} → eqb c.lease_token.result 0 ≡ t → (σ : State) → let a = c.args in Holds a.s.now σ → (if t then 0 else 1) ≡ held_on σ a.k
held_by c q σ h =
    let told = c.in_default in
    let first_on = c.first_on-row in
    sym (held_leased σ _ h.fits.rows (sym (first_on.ensures.0 σ h) ∙ told.is) (key_stands h _ (omega arith)).fits.lease (rw (c.lease_token.ensures σ h) at q))

pub returns-then-lease_token-eq0 : goal.returns-then-lease_token-eq0
returns-then-lease_token-eq0 c = (λ σ h e. held_by (goal.at.returns-then-lease_token-eq0 c).After-lease_token (eq-eqb _ _ c.if-lease_token-eq0.true) σ h, omega arith)

pub returns : goal.returns
returns c = (λ σ h e. held_by (goal.at.returns c).After-lease_token (ne_eqb _ _ c.if-lease_token-eq0.false) σ h, omega arith)
