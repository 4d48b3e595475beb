-- The loops over the keys and over the sessions: each is a pass over one table, and a session that the loop has not come to stands as before,
-- so the numbers noted are those of the sessions that were due.
use Rattle.std.specs.Prelude.{if◌then◌else◌}
use mathlib.Core.Path.{◌≡◌, refl, sym, ap, ◌∙◌}
use mathlib.Core.Bool.{Bool, true, false}
use mathlib.Core.List.{List, [], ◌∷◌, ◌++◌, map}
use Prim.Native.Nat.{ℕ, ◌+◌, ◌≤◌, ◌<◌}
use native.Mathlib.Numerals.{add-one}
use native.Mathlib.Omega.{arith}
use lib.ListN.{length, get_or, set, take, drop}
use lib.Seq.{take-suc}
use Rattle.lent.proofs.Walks.{iter}
use Rattle.machine.specs.Session.{is_due}
use Rattle.machine.specs.State.{Slot, no_session, session, State, session_at}
use Rattle.machine.specs.Expiry.{with_sessions, those}
use Rattle.endings.proofs.Passes.{next-old, pass_part, pass_whole}
use Rattle.sweep.specs.Lapsing.{free_due, noted, end_due}

-- a pass over a table that lies in a state, with nothing handed along
module _ {A : Type 0} (f : A → A) (d : A) (with : List A → State) (step : ℕ → State → State) (turn : (i : ℕ) (l : List A) → step i (with l) ≡ with (set l i (f (get_or l i d)))) (l : List A) (n : ℕ) where
  pub passed : length l ≡ n → iter step n (with l) ≡ with (map f l)
  passed = pass_whole f (λ x b. b) d (λ l b. with l) step (λ i l b. turn i l) l (tt {0}) n

  passed_part : n ≤ length l → iter step n (with l) ≡ with (map f (take n l) ++ drop n l)
  passed_part = pass_part f (λ x b. b) d (λ l b. with l) step (λ i l b. turn i l) l (tt {0}) n

-- a session that the loop has not come to stands as before
session_ahead : (now : ℕ) (s : State) (i : ℕ) → i < length s.sessions → session_at (iter (end_due now) i s) i ≡ session_at s i
unfolding end_due
session_ahead now s i h =
    ap (λ (t : State). session_at t i) (passed_part (free_due now) no_session (with_sessions s) (end_due now) (λ i l. refl) s.sessions i (omega arith))
    ∙ next-old (free_due now) no_session s.sessions i h

-- the numbers of those that are due, one session more
those_snoc : (now : ℕ) (l : List Slot) (e : Slot) → those (is_due now) (l ++ (e ∷ [])) ≡ those (is_due now) l ++ noted now e
those_snoc now [] no_session = refl
those_snoc now [] (session x) = refl
those_snoc now (no_session ∷ l) e = those_snoc now l e
those_snoc now (session x ∷ l) e = go (is_due now x) (those_snoc now l e)
  where
    go : (t : Bool) → those (is_due now) (l ++ (e ∷ [])) ≡ those (is_due now) l ++ noted now e
        → (if t then x.number ∷ those (is_due now) (l ++ (e ∷ [])) else those (is_due now) (l ++ (e ∷ []))) ≡ (if t then x.number ∷ those (is_due now) l else those (is_due now) l) ++ noted now e
    go true q = ap (◌∷◌ x.number) q
    go false q = q

pub noted-next : (now : ℕ) (s : State) (i : ℕ) → i < length s.sessions → those (is_due now) (take i s.sessions) ++ noted now (session_at (iter (end_due now) i s) i) ≡ those (is_due now) (take (i + 1) s.sessions)
noted-next now s i h =
    rw (session_ahead now s i h, add-one, take-suc s.sessions i no_session h) (sym (those_snoc now (take i s.sessions) (session_at s i)))
