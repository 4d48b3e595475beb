-- An n over `step_max` is refused (`validate_far`); then the search finds no session (`validate_none`), or what its record says of n decides (`validate_by`).
use mathlib.Core.Bool.{true}
use Rattle.machine.specs.State.{State}
use Rattle.machine.specs.Sound.{sound}
use Rattle.layout.specs.Holds.{Holds}
use mathlib.Core.Path.{◌≡◌, sym, ◌∙◌}
use Rattle.outcome.proofs.Told.{gives}
use Rattle.machine.specs.Sizes.{session_count}
use Rattle.layout.proofs.Search.{found_below}
use Rattle.turns.proofs.Tried.{Located, located_at, number_here, validate_far, validate_none, validate_by, seals_fit}
use borrow.Author.Rules.{rules}
use Rattle.turns.proofs.validate.Goals as goal
use Rattle.turns.proofs.validate.Goals.{After-load-x}

pub returns-then-n-gt-STEP_MAX : goal.returns-then-n-gt-STEP_MAX
returns-then-n-gt-STEP_MAX c = λ σ h ok. gives (validate_far σ _ _ c.if-n-gt-STEP_MAX.true) h

pub returns-in_default : goal.returns-in_default
returns-in_default c = λ σ h ok. gives (validate_none σ _ ok (c.find.ensures.0 σ h) c.in_default.is _ c.if-n-gt-STEP_MAX.false) h

pub load-x-requires : goal.load-x-requires
load-x-requires c = search (rules, found_below session_count)

pub store-requires : goal.store-requires
store-requires c = search (rules, found_below session_count)

pub leave-requires : goal.leave-requires
leave-requires c = search (rules, found_below session_count)

-- the session that was found and loaded
here : (c : After-load-x) (σ : State) → let a = c.args in Holds a.s.now σ → sound σ ≡ true → Located σ a.session c.in-Some.i c.load-x.result
here c σ h ok = located_at σ _ ok (c.find.ensures.0 σ h) c.in-Some.is (c.load-x.ensures σ h)

pub returns-in-Seals : goal.returns-in-Seals
returns-in-Seals c = λ σ h ok.
    let w = here (goal.at.returns-in-Seals c).After-load-x σ h ok in
    let v = sym c.validate.ensures ∙ c.in-Seals.is in
    let f = seals_fit σ _ w ok _ v in
    gives (validate_by σ _ w _ (search rules) v) (c.store.ensures σ h f.0 f.1)

pub returns-in-Loses : goal.returns-in-Loses
returns-in-Loses c = λ σ h ok.
    let w = here (goal.at.returns-in-Loses c).After-load-x σ h ok in
    gives (validate_by σ _ w _ (search rules) (sym c.validate.ensures ∙ c.in-Loses.is)) (rw (← w.number) (c.leave.ensures σ h ok (number_here w w.number)))

pub returns-in-Clashes : goal.returns-in-Clashes
returns-in-Clashes c = λ σ h ok. gives (validate_by σ _ (here (goal.at.returns-in-Clashes c).After-load-x σ h ok) _ (search rules) (sym c.validate.ensures ∙ c.in-Clashes.is)) h
