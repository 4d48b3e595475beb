-- The mark says whether a value is there.
use mathlib.Core.Path.{sym, ap}
use native.Mathlib.Omega.{arith}
use borrow.Author.Tests.{not-true, not-false}
use Rattle.lent.proofs.Choices.{test_failed, test_passed}
use Rattle.machine.specs.State.{cached}
use Rattle.sights.specs.Sights.{placed}
use Rattle.sights.proofs.Sights.{cached-absent, cached_there}
use Rattle.sights.proofs.cached_sight.Goals as goal

pub returns-then-not-has_value : goal.returns-then-not-has_value
returns-then-not-has_value c = let k = c.args.k in
    (λ σ h. sym (ap placed (cached-absent k (cached σ k) (not-false _ (test_failed (c.has_value.ensures σ h) c.if-not-has_value.true)))), tt)

pub returns : goal.returns
returns c = let k = c.args.k in
    (λ σ h. rw (c.value_length.ensures.0 σ h) (sym (cached_there k (cached σ k) (not-true _ (test_passed (c.has_value.ensures σ h) c.if-not-has_value.false)))), omega (arith, c.value_length.ensures.1))
