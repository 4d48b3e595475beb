-- A sound state after expiry, part by part. Numbers differ, so the session of a number is the one it was, or nobody if that one is due;
-- a row goes exactly if its session is due; and a session that stays has the rows that it had.
use mathlib.Core.Path.{◌≡◌, refl, sym, ap, ◌∙◌}
use mathlib.Core.Bool.{Bool, true, false}
use mathlib.Core.Logic.{◌⊎◌, inl, inr}
use mathlib.Core.List.{List, [], ◌∷◌, map}
use Prim.Native.Nat.{ℕ}
use lib.Dec.{eqb}
use lib.ListN.{get_or, get_or-map}
use borrow.Author.Tests.{eqb-true, eq-eqb}
use Rattle.lent.proofs.Choices.{case_of, clash, if_left}
use Rattle.machine.specs.Tables.{place, find, mem}
use Rattle.machine.specs.Session.{is_due}
use Rattle.machine.specs.State.{Slot, no_session, session, Row, no_row, row, State, numbered, of_on, session_place, session_of, row_of, session_at}
use Rattle.machine.specs.Expiry.{free_if_of, leave, finish, those, expire}
use Rattle.machine.specs.Sound.{sound}
use Rattle.machine.specs.declared.Session.{Session}
use Rattle.machine.proofs.Views.{find_test, find_passes, among_those, no_row_lem, no_session_lem}
use Rattle.machine.proofs.SoundFacts.{numbers-distinct}
use Rattle.deadlines.specs.Deadlines.{due_slot}
use Rattle.sweep.specs.Lapsing.{free_due}
use Rattle.sweep.proofs.Due.{due_freed, due-number}

-- a place that is taken after expiry was taken, by a session that is not due
pub due_freed_was : (now : ℕ) (e : Slot) (y : Session) → free_due now e ≡ session y → (e ≡ session y) × (is_due now y ≡ false)
due_freed_was now no_session y q = no_session_lem y q
due_freed_was now (session x) y q = if_left (due_slot now) (no_session_lem y) q

-- a search of a table whose entries were put through f, which does not change the test
place_mapped : {A : Type 0} (p : A → Bool) (f : A → A) → ((x : A) → p (f x) ≡ p x) → (l : List A) → place p (map f l) ≡ place p l
place_mapped p f same [] = refl
place_mapped p f same (x ∷ l) = rw (same x, place_mapped p f same l)

module _ (s : State) (now : ℕ) where
  abbrev pub due : List ℕ
  due = those (is_due now) s.sessions

  pub head_expired : (expire now s).head ≡ s.head
  unfolding expire finish leave
  head_expired = refl

  pub rows_expired : (expire now s).rows ≡ map (free_if_of due) s.rows
  unfolding expire finish leave
  rows_expired = refl

module _ (s : State) (ok : sound s ≡ true) (now : ℕ) where
  pub sessions_expired : (expire now s).sessions ≡ map (free_due now) s.sessions
  unfolding expire finish leave
  sessions_expired = due_freed s.sessions (numbers-distinct s ok) now

  -- ---- sessions

  at-expired : (i : ℕ) → session_at (expire now s) i ≡ free_due now (session_at s i)
  at-expired i = ap (λ (l : List Slot). get_or l i no_session) sessions_expired ∙ get_or-map (free_due now) s.sessions i no_session

  module _ (n : ℕ) where
    pub due_is : mem n (due s now) ≡ due_slot now (session_of s n)
    due_is = go (case_of (mem n (due s now))) (session_of s n) refl (find_test (numbered n) no_session s.sessions)
      where
        go : (mem n (due s now) ≡ true) ⊎ (mem n (due s now) ≡ false) → (e : Slot) → session_of s n ≡ e → (e ≡ no_session) ⊎ (numbered n e ≡ true) → mem n (due s now) ≡ due_slot now e
        go (inl m) e q t =
            let w = among_those (is_due now) s.sessions n m in
            due-number s.sessions (numbers-distinct s ok) now n w.0 (rw w.2 (eq-eqb w.1.number n w.3)) ∙ ap (due_slot now) q
        go (inr m) no_session q t = m
        go (inr m) (session x) q (inl t) = no_session_lem x (sym t)
        go (inr m) (session x) q (inr t) = due-number s.sessions (numbers-distinct s ok) now n (session_place s n) (rw q t) ∙ ap (due_slot now) q

    pub session_expired : session_of (expire now s) n ≡ free_due now (session_of s n)
    session_expired = go (session_of s n) (session_of (expire now s) n) refl refl (find_test (numbered n) no_session s.sessions) (find_test (numbered n) no_session (expire now s).sessions)
      where
        -- who has the number after expiry had it before
        had : (y : Session) → session_of (expire now s) n ≡ session y → (session_at s (session_place (expire now s) n) ≡ session y) × (is_due now y ≡ false)
        had y q = due_freed_was now (session_at s (session_place (expire now s) n)) y (sym (at-expired (session_place (expire now s) n)) ∙ q)

        go : (e f : Slot) → session_of s n ≡ e → session_of (expire now s) n ≡ f → (e ≡ no_session) ⊎ (numbered n e ≡ true) → (f ≡ no_session) ⊎ (numbered n f ≡ true) → f ≡ free_due now e
        go no_session no_session p q t u = refl
        go no_session (session y) p q t (inl u) = no_session_lem y (sym u)
        go no_session (session y) p q t (inr u) =
            clash false (rw p at (find_passes (numbered n) no_session s.sessions (session_place (expire now s) n) refl (rw (had y q).0 u))) refl
        go (session x) f p q (inl t) u = no_session_lem x (sym t)
        go (session x) no_session p q (inr t) u = gone (case_of (is_due now x))
          where
            gone : (is_due now x ≡ true) ⊎ (is_due now x ≡ false) → no_session ≡ free_due now (session x)
            gone (inl d) = rw d
            gone (inr d) =
                let here : session_at (expire now s) (session_place s n) ≡ session x = at-expired (session_place s n) ∙ ap (free_due now) p ∙ rw d in
                clash false (rw q at (find_passes (numbered n) no_session (expire now s).sessions (session_place s n) refl (rw here t))) refl
        go (session x) (session y) p q (inr t) (inl u) = no_session_lem y (sym u)
        go (session x) (session y) p q (inr t) (inr u) =
            let was = had y q in
            let same : session_place s n ≡ session_place (expire now s) n =
            numbers-distinct s ok (session_place s n) (session_place (expire now s) n) x y p was.0 (eqb-true x.number n t ∙ sym (eqb-true y.number n u)) in
            let eq : session x ≡ session y = sym p ∙ ap (session_at s) same ∙ was.0 in
            let g : x ≡ y = cc in
            rw (g, was.1)

    -- ---- rows

    pub row_expired : (k : ℕ) → due_slot now (session_of s n) ≡ false → row_of (expire now s) n k ≡ row_of s n k
    row_expired k h =
        ap (λ (l : List Row). find (of_on n k) no_row l) (rows_expired s now)
        ∙ ap (λ (i : ℕ). get_or (map (free_if_of (due s now)) s.rows) i no_row) (place_mapped (of_on n k) (free_if_of (due s now)) same s.rows)
        ∙ get_or-map (free_if_of (due s now)) s.rows (place (of_on n k) s.rows) no_row
        ∙ kept (row_of s n k) (find_test (of_on n k) no_row s.rows)
      where
        undue : mem n (due s now) ≡ false
        undue = due_is ∙ h

        same : (r : Row) → of_on n k (free_if_of (due s now) r) ≡ of_on n k r
        same no_row = refl
        same (row m j d u) = go (case_of (mem m (due s now))) (case_of (eqb m n))
          where
            go : (mem m (due s now) ≡ true) ⊎ (mem m (due s now) ≡ false) → (eqb m n ≡ true) ⊎ (eqb m n ≡ false) → of_on n k (free_if_of (due s now) (row m j d u)) ≡ of_on n k (row m j d u)
            go (inl q) (inl e) = clash (mem n (due s now)) (rw (eqb-true m n e) at q) undue
            go (inl q) (inr e) = rw (q, e)
            go (inr q) e = rw q

        kept : (r : Row) → (r ≡ no_row) ⊎ (of_on n k r ≡ true) → free_if_of (due s now) r ≡ r
        kept no_row t = refl
        kept (row m j d u) (inl t) = no_row_lem m j d u (sym t)
        kept (row m j d u) (inr t) = go (case_of (eqb m n))
          where
            go : (eqb m n ≡ true) ⊎ (eqb m n ≡ false) → free_if_of (due s now) (row m j d u) ≡ row m j d u
            go (inl e) = rw (eqb-true m n e, undue)
            go (inr e) = clash false (rw e at t) refl
