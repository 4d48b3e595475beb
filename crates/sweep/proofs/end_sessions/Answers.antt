-- After i turns the bytes hold the state after i steps of `end_due`, and what is noted are the numbers of those due before place i, since the
-- loop finds each session as it was (`noted-next`).
use mathlib.Core.Path.{refl, ap, ◌∙◌}
use native.Mathlib.Omega.{arith}
use lib.Seq.{take_all}
use borrow.Author.Rules.{rules}
use Rattle.machine.specs.State.{no_session}
use Rattle.machine.specs.Session.{is_due}
use Rattle.machine.specs.Expiry.{with_sessions, those}
use Rattle.layout.proofs.Walked.{walked_none, walked_more, walked_all}
use Rattle.sweep.specs.Lapsing.{free_due, end_due}
use Rattle.sweep.proofs.Ended.{passed, noted-next}
use Rattle.sweep.proofs.end_sessions.Goals as goal

pub loop-i-init : goal.loop-i-init
loop-i-init c = (search rules, search rules, search rules, search rules, walked_none, λ σ h. refl)

pub loop-i-preserved : goal.loop-i-preserved
loop-i-preserved c = let end-due = c.end_due-count in
    let loop = c.loop-i in (
      search rules,
      search rules,
      search rules,
      search rules,
      walked_more loop.invariant.4 (λ σ h. (end-due.ensures.1 σ h).0),
      λ σ h. rw ((end-due.ensures.1 _ (loop.invariant.4.holds σ h)).1, loop.invariant.5 σ h) (noted-next _ σ loop.i (omega (arith, h.fits.sessions))),
    )

pub returns : goal.returns
unfolding end_due
returns c = let loop = c.loop-i in (
  search rules,
  λ σ h. (
    walked_all loop.invariant.4 (omega arith) h (passed (free_due _) no_session (with_sessions σ) (end_due _) (λ i l. refl) σ.sessions _ h.fits.sessions),
    loop.invariant.5 σ h ∙ ap (those (is_due _)) (take_all loop.i σ.sessions (omega (arith, h.fits.sessions))),
  ),
)
