-- The refusal, then whether a value is there; where one is, dropping it leaves the record with its lease.
use native.Mathlib.Omega.{arith}
use borrow.Author.Tests.{not-true, not-false}
use Rattle.lent.proofs.Choices.{test_failed, test_passed}
use Rattle.outcome.proofs.Told.{gives}
use Rattle.fills.proofs.Tried.{evict_key, evict_empty, evict_evicted}
use Rattle.fills.proofs.evict.Goals as goal

pub returns-then-key : goal.returns-then-key
returns-then-key c = let args = c.args in
    λ σ h e. gives (evict_key σ args.key (omega arith)) h

pub returns-then-not-has_value : goal.returns-then-not-has_value
returns-then-not-has_value c = let args = c.args in
    λ σ h e. gives (evict_empty σ args.key (omega arith) (not-false _ (test_failed (c.has_value.ensures σ h) c.if-not-has_value.true))) h

pub returns : goal.returns
returns c = let drop-value = c.drop_value in
    let if2 = c.if-not-has_value in
    let has_value = c.has_value in
    let args = c.args in
    λ σ h e. gives (evict_evicted σ args.key (omega arith) (not-true _ (test_passed (has_value.ensures σ h) if2.false))) (drop-value.ensures σ h)
