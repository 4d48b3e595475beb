-- The search finds no session (`done_none`) or its place; an open one is refused (`done_open`), and a sealed one finishes.
use mathlib.Core.Bool.{true}
use Rattle.lent.proofs.Choices.{test_failed, test_passed}
use Rattle.outcome.proofs.Told.{gives}
use Rattle.machine.specs.Sizes.{session_count}
use Rattle.layout.proofs.Search.{found_below}
use Rattle.turns.proofs.Tried.{located_at, number_here, done_none, done_open, done_is}
use borrow.Author.Rules.{rules}
use Rattle.turns.proofs.done.Goals as goal

pub returns-in_default : goal.returns-in_default
returns-in_default c = λ σ h ok. gives (done_none σ _ ok (c.find.ensures.0 σ h) c.in_default.is) h

pub load-x-requires : goal.load-x-requires
load-x-requires c = search (rules, found_below session_count)

pub returns-then-not-is_sealed : goal.returns-then-not-is_sealed
returns-then-not-is_sealed c = λ σ h ok. gives (done_open σ _ (located_at σ _ ok (c.find.ensures.0 σ h) c.in-Some.is (c.load-x.ensures σ h)) (test_failed c.is_sealed.ensures c.if-not-is_sealed.true)) h

pub finish-requires : goal.finish-requires
finish-requires c = search (rules, found_below session_count)

pub returns : goal.returns
returns c = λ σ h ok.
    let w = located_at σ _ ok (c.find.ensures.0 σ h) c.in-Some.is (c.load-x.ensures σ h) in
    gives (done_is σ _ w (test_passed c.is_sealed.ensures c.if-not-is_sealed.false)) (rw (← w.number) (c.finish.ensures σ h ok (number_here w w.number)))
