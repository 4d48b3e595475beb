-- A row's mark and kind say which of the three is seen.
use Rattle.std.specs.Prelude.{if◌then◌else◌}
use mathlib.Core.Path.{◌≡◌, sym, ap, ◌∙◌}
use mathlib.Core.Bool.{Bool}
use mathlib.Core.Option.{none}
use native.Mathlib.Omega.{arith}
use lib.Dec.{eqb}
use borrow.Author.Tests.{eq-eqb, ne_eqb}
use Rattle.machine.specs.State.{State, row_at, cached}
use Rattle.machine.specs.Refusals.{cached_sight, row_sight}
use Rattle.machine.specs.Words.{INVALIDATE}
use Rattle.layout.specs.Fields.{DROPPED}
use Rattle.layout.specs.Holds.{Holds}
use Rattle.sights.specs.Sights.{placed}
use Rattle.sights.proofs.Sights.{row_staged, row_dropped, row_unstaged}
use Rattle.sights.proofs.row_sight.Goals as goal
use Rattle.sights.proofs.row_sight.Goals.{After-kind}

pub returns-then-mark-eq-VALUED : goal.returns-then-mark-eq-VALUED
returns-then-mark-eq-VALUED c = let a = c.args in
    (λ σ h. rw (c.staged_length.ensures.0 σ h) (sym (row_staged a.i a.k (cached σ a.k) (row_at σ a.i) (sym (c.mark-mark.ensures σ h) ∙ c.if-mark-eq-VALUED.true))), omega (arith, c.staged_length.ensures.1))

pub returns-then-mark-eq-DROPPED : goal.returns-then-mark-eq-DROPPED
returns-then-mark-eq-DROPPED c = let a = c.args in
    (λ σ h. sym (ap placed (row_dropped a.i a.k (cached σ a.k) (row_at σ a.i) (sym (c.mark-mark.ensures σ h) ∙ c.if-mark-eq-DROPPED.true))), tt)

-- neither a value nor, as it is told, DROP is staged
row-sight-by : (c : After-kind) → (c.mark-mark.result ≡ DROPPED → ⊥) → {t : Bool} → eqb c.kind.result INVALIDATE ≡ t → (σ : State) → let a = c.args in Holds a.s.now σ
    → placed (if t then none else cached_sight a.k (cached σ a.k)) ≡ placed (row_sight a.i a.k (row_at σ a.i) (cached σ a.k))
row-sight-by c z q σ h =
    let if1 = c.if-mark-eq-VALUED in
    let mark = c.mark-mark in
    let a = c.args in
    sym (ap placed (row_unstaged a.i a.k (cached σ a.k) (row_at σ a.i) (λ e. if1.false (mark.ensures σ h ∙ e)) (λ e. z (mark.ensures σ h ∙ e)) (rw (c.kind.ensures σ h) at q)))

pub returns-then-kind-eq-INVALIDATE : goal.returns-then-kind-eq-INVALIDATE
returns-then-kind-eq-INVALIDATE c = (row-sight-by (goal.at.returns-then-kind-eq-INVALIDATE c).After-kind c.if-mark-eq-DROPPED.false (eq-eqb _ _ c.if-kind-eq-INVALIDATE.true), tt)

pub returns : goal.returns
returns c = (λ σ h. c.cached_sight.ensures.0 σ h ∙ row-sight-by (goal.at.returns c).After-kind c.if-mark-eq-DROPPED.false (ne_eqb _ _ c.if-kind-eq-INVALIDATE.false) σ h, c.cached_sight.ensures.1)
