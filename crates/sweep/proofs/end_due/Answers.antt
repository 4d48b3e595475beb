-- A session that is not due stays and nothing is noted; one that is due is freed, and its number stands behind those noted before.
use mathlib.Core.Path.{◌≡◌, sym}
use mathlib.Core.Bool.{true, false}
use mathlib.Core.List.{append-nil}
use native.Mathlib.Numerals.{add-one}
use native.Mathlib.Omega.{arith}
use lib.Seq.{take-suc-set}
use borrow.Author.Rules.{rules}
use Rattle.lent.proofs.Choices.{test_failed, test_passed}
use Rattle.machine.specs.State.{session_at}
use Rattle.deadlines.specs.Deadlines.{due_slot}
use Rattle.sweep.proofs.Steps.{session_stays, session_ends, noted_not, noted_is}
use Rattle.sweep.proofs.end_due.Goals as goal

pub returns-then-not-session_due : goal.returns-then-not-session_due
returns-then-not-session_due c = let args = c.args in (
  search rules,
  λ σ h.
      let stays : due_slot args.time (session_at σ args.i) ≡ false = test_failed (c.session_due.ensures σ h) c.if-not-session_due.true in
      (rw (session_stays _ _ σ stays) h, rw (noted_not _ _ stays) (sym (append-nil _))),
)

pub returns : goal.returns
returns c = let free = c.free in
    let number = c.number in
    let if1 = c.if-not-session_due in
    let session-due = c.session_due in
    let args = c.args in (
      search rules,
      λ σ h.
          let ends : due_slot args.time (session_at σ args.i) ≡ true = test_passed (session-due.ensures σ h) if1.false in (
            rw (session_ends _ _ σ ends) (free.ensures σ h),
            rw (noted_is _ _ ends, ← (number.ensures σ h), add-one) (take-suc-set args.ns.now args.count number.result (omega arith)),
          ),
    )
