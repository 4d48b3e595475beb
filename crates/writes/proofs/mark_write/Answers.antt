-- The session is loaded and marked; its life and its row on the key decide.
use Rattle.std.specs.Prelude.{Option}
use mathlib.Core.Path.{◌≡◌, sym, ◌∙◌}
use mathlib.Core.Bool.{true}
use mathlib.Core.List.{List}
use Prim.Native.Nat.{ℕ}
use Rattle.lent.proofs.Choices.{test_failed, test_passed}
use Rattle.machine.specs.State.{State, session_place}
use Rattle.machine.specs.Sound.{sound}
use Rattle.layout.specs.Holds.{Holds}
use Rattle.book.specs.Book.{with_mark}
use Rattle.turns.proofs.Tried.{Located, located}
use Rattle.writes.specs.Writes.{Writes}
use Rattle.writes.proofs.Written.{rule_by, written_open, written-by}
use Rattle.writes.proofs.mark_write.Goals as goal
use Rattle.writes.proofs.mark_write.Goals.{After-find-row, After-load-session}

-- the session that was loaded
here : (c : After-load-session) (σ : State) → let a = c.args in Holds a.cache.now σ → sound σ ≡ true → (n : ℕ) → session_place σ n ≡ a.i → Located σ n a.i c.load-session.result
here c σ h ok n p = located σ n ok (c.load-session.ensures σ h) (p, c.requires)

pub returns-then-not-is_sealed : goal.returns-then-not-is_sealed
returns-then-not-is_sealed c = λ σ h ok n p. written_open (here (goal.at.returns-then-not-is_sealed c).After-load-session σ h ok n p) _ _ c.set_mark.ensures (test_failed c.is_sealed.ensures c.if-not-is_sealed.true)

-- it is sealed, and the search for its row told d
writes-by : (c : After-find-row) {d : Option ℕ} {b : List ℕ} → c.find-row.result ≡ d → (σ : State) → let a = c.args in Holds a.cache.now σ → sound σ ≡ true → (n : ℕ) → session_place σ n ≡ a.i
    → b ≡ with_mark a.book.now a.i c.load-session.result.number → Writes σ a.book.now n a.key a.i (rule_by d) b
writes-by c e σ h ok n p f =
    written-by (located σ n ok (c.load-session.ensures σ h) (p, c.requires)) _ _ f h.fits.rows (test_passed c.is_sealed.ensures c.if-not-is_sealed.false) (sym (rw c.from.ensures at c.find-row.ensures.0 σ h) ∙ e)

pub returns-in-Some : goal.returns-in-Some
returns-in-Some c = λ σ h ok n p. writes-by (goal.at.returns-in-Some c).After-find-row c.in-Some.is σ h ok n p c.set_mark.ensures

pub returns-in-None : goal.returns-in-None
returns-in-None c = λ σ h ok n p. writes-by (goal.at.returns-in-None c).After-find-row c.in-None.is σ h ok n p c.set_mark.ensures
