-- The search finds no session (`undo_none`) or its place, and the session leaves, open or sealed.
use mathlib.Core.Path.{refl}
use Rattle.outcome.proofs.Told.{gives}
use Rattle.machine.specs.Sizes.{session_count}
use Rattle.layout.proofs.Search.{found_below}
use Rattle.turns.proofs.Tried.{located_at, number_same, number_here, undo_none, undo_is}
use borrow.Author.Rules.{rules}
use Rattle.turns.proofs.undo.Goals as goal

pub returns-in_default : goal.returns-in_default
returns-in_default c = λ σ h ok. gives (undo_none σ _ ok (c.find.ensures.0 σ h) c.in_default.is) h

pub number-n-requires : goal.number-n-requires
number-n-requires c = search (rules, found_below session_count)

pub leave-requires : goal.leave-requires
leave-requires c = search (rules, found_below session_count)

pub returns : goal.returns
returns c = λ σ h ok.
    let w = located_at σ _ ok (c.find.ensures.0 σ h) c.in-Some.is refl in
    let e = number_same w (c.number-n.ensures σ h) in
    gives (undo_is σ _ w) (rw (← e) (c.leave.ensures σ h ok (number_here w e)))
