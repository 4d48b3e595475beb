-- The row's mark and the key's decide which value is worked on, and that value stands where its record says.
use mathlib.Core.Path.{sym, ◌∙◌}
use Rattle.lent.proofs.Choices.{test_failed, test_passed}
use Rattle.machine.specs.State.{staged_in, row_at, cached}
use Rattle.deltas.proofs.Working.{changed-drop, works_staged, changed-absent, works_cached}
use Rattle.deltas.proofs.work.Goals as goal

pub returns-then-mark-eq-DROPPED : goal.returns-then-mark-eq-DROPPED
returns-then-mark-eq-DROPPED c = (λ σ h. changed-drop _ _ (staged_in (row_at σ _)) (cached σ _) (sym (c.mark-mark.ensures σ h) ∙ c.if-mark-eq-DROPPED.true), tt)

pub returns-then-mark-eq-VALUED : goal.returns-then-mark-eq-VALUED
returns-then-mark-eq-VALUED c = let operate-at = c.operate_at in (
  λ σ h. works_staged h c.args.row _ _ _ c.requires.0 (sym (c.mark-mark.ensures σ h) ∙ c.if-mark-eq-VALUED.true) (c.staged_length-n.ensures.0 σ h) operate-at.ensures.value,
  operate-at.ensures.short,
)

pub returns-then-not-has_value : goal.returns-then-not-has_value
returns-then-not-has_value c = let has_value = c.has_value in
    let if2 = c.if-mark-eq-VALUED in
    let if1 = c.if-mark-eq-DROPPED in
    let mark = c.mark-mark in
    let args = c.args in (
      λ σ h. changed-absent args.operation args.operand.now (staged_in (row_at σ args.row)) (cached σ args.k)
          (λ q. if1.false (mark.ensures σ h ∙ q)) (λ q. if2.false (mark.ensures σ h ∙ q)) (test_failed (has_value.ensures σ h) c.if-not-has_value.true),
      tt,
    )

pub returns : goal.returns
returns c = let operate-at2 = c.operate_at-2 in
    let mark = c.mark-mark in (
      λ σ h. works_cached h c.args.row c.args.k _ _
          (λ q. c.if-mark-eq-DROPPED.false (mark.ensures σ h ∙ q)) (λ q. c.if-mark-eq-VALUED.false (mark.ensures σ h ∙ q)) c.requires.1
          (test_passed (c.has_value.ensures σ h) c.if-not-has_value.false) (c.value_length-n.ensures.0 σ h) operate-at2.ensures.value,
      operate-at2.ensures.short,
    )
