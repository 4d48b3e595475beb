-- A buffer that is not well formed has no session; else the session is looked up in the state that it holds.
use Rattle.std.specs.Prelude.{ℕ, Option}
use mathlib.Core.Path.{◌≡◌, sym, ◌∙◌}
use mathlib.Core.Bool.{true}
use Rattle.machine.specs.Sizes.{session_count}
use Rattle.machine.specs.State.{session_place}
use Rattle.layout.specs.Layout.{decode}
use Rattle.layout.specs.WellFormed.{well_formed}
use Rattle.layout.specs.Search.{found}
use Rattle.layout.proofs.Formed.{holds_decoded}
use Rattle.layout.proofs.Search.{found_below}
use Rattle.writes.proofs.Written.{written_damaged, written_nobody, written_at}
use Rattle.writes.proofs.note_write.Goals as goal
use Rattle.writes.proofs.note_write.Goals.{After-find-place}

pub returns-in_default : goal.returns-in_default
returns-in_default c = let a = c.args in written_damaged a.cache.now a.book.now a.session a.key c.in_default.ensures

-- the buffer is well formed, and the search for the session told d
formed-and-found : (c : After-find-place) {d : Option ℕ} → c.find-place.result ≡ d → let x = c.args.cache.now in (well_formed x ≡ true) × (found session_count (session_place (decode x) c.args.session) ≡ d)
formed-and-found c q =
    let e = c.in-Some.ensures in
    (e.0, sym (c.find-place.ensures.0 (decode c.args.cache.now) (rw e.1 (holds_decoded c.args.cache.now e.0))) ∙ q)

pub mark_write-requires : goal.mark_write-requires
mark_write-requires c = found_below _ _ _ c.in-Some-place.is c.find-place.ensures.1

pub returns-in-Some-place : goal.returns-in-Some-place
returns-in-Some-place c = let w = formed-and-found (goal.at.returns-in-Some-place c).After-find-place c.in-Some-place.is in written_at _ _ _ _ w.0 _ _ _ w.1 (rw c.in-Some.ensures.1 at c.mark_write.ensures)

pub returns-in-None : goal.returns-in-None
returns-in-None c = let w = formed-and-found (goal.at.returns-in-None c).After-find-place c.in-None.is in written_nobody _ _ _ _ w.0 w.1
