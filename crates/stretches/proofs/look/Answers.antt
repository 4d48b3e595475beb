-- A row of the session's own decides; without one, the cached value.
use Rattle.std.specs.Prelude.{ℕ, Option}
use mathlib.Core.Path.{◌≡◌, sym, ap, ◌∙◌}
use native.Mathlib.Omega.{arith}
use Prim.Native.Nat.{◌<◌}
use Rattle.machine.specs.Sizes.{row_count}
use Rattle.machine.specs.State.{State}
use Rattle.machine.specs.Refusals.{sight}
use Rattle.layout.specs.Holds.{Holds}
use Rattle.sights.specs.Sights.{placed}
use Rattle.sights.proofs.Sights.{sight_by, sight-by}
use Rattle.stretches.proofs.look.Goals as goal
use Rattle.stretches.proofs.look.Goals.{After-find-row}

pub row_sight-requires : goal.row_sight-requires
row_sight-requires c = let l : c.in-Some.i < row_count = rw c.in-Some.is at c.find-row.ensures.1 in omega arith

-- by what the search for the row told
sees : (c : After-find-row) {d : Option ℕ} → c.find-row.result ≡ d → (σ : State) → let a = c.args in Holds a.s.now σ → placed (sight_by σ a.k d) ≡ placed (sight σ a.session a.k)
sees c e σ h = let a = c.args in sym (ap placed (sight-by σ a.session a.k h.fits.rows (sym (c.find-row.ensures.0 σ h) ∙ e)))

pub returns-in-Some : goal.returns-in-Some
returns-in-Some c = (λ σ h. c.row_sight.ensures.0 σ h ∙ sees (goal.at.returns-in-Some c).After-find-row c.in-Some.is σ h, c.row_sight.ensures.1)

pub returns-in-None : goal.returns-in-None
returns-in-None c = (λ σ h. c.cached_sight.ensures.0 σ h ∙ sees (goal.at.returns-in-None c).After-find-row c.in-None.is σ h, c.cached_sight.ensures.1)
