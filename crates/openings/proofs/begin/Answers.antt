-- A full table is refused (`begin_full`); else `open` answers, in the place that the search found.
use mathlib.Core.Path.{sym, ◌∙◌}
use Rattle.outcome.proofs.Told.{gives}
use Rattle.machine.specs.Sizes.{session_count}
use Rattle.machine.specs.Tables.{place}
use Rattle.machine.specs.State.{free}
use Rattle.layout.proofs.Search.{found-at}
use Rattle.openings.proofs.Tried.{begin_full}
use borrow.Author.Rules.{rules}
use Rattle.openings.proofs.begin.Goals as goal

pub open-requires : goal.open-requires
open-requires c = (rw c.in-Some.is at c.free_place-f.ensures.1, search rules)

pub returns-in-Some : goal.returns-in-Some
returns-in-Some c = let «open» = c.«open» in
    let f = c.in-Some in
    let free-place = c.free_place-f in
    λ σ h ok. «open».ensures σ h ok (found-at session_count (place free σ.sessions) f.i (sym (free-place.ensures.0 σ h) ∙ f.is)).0

pub returns-in-None : goal.returns-in-None
returns-in-None c = λ σ h ok. gives (begin_full σ ok c.args.time (sym (c.free_place-f.ensures.0 σ h) ∙ c.in-None.is)) h
