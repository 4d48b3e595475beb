-- What VALIDATE, DONE and UNDO come to, case by case: the session that the search found is the one that the definitions look up, and
-- its life and count decide each test.
use Rattle.std.specs.Prelude.{if◌then◌else◌, Option, Some, None}
use mathlib.Core.Path.{◌≡◌, refl, sym, ap, ◌∙◌}
use mathlib.Core.Bool.{Bool, true, false, not, ◌&&◌}
use mathlib.Core.Option.{none, some}
use mathlib.Core.List.{[], ◌∷◌}
use Prim.Native.Nat.{ℕ, ◌≤◌, ◌<◌, ◌^◌}
use native.Mathlib.Omega.{arith}
use lib.Dec.{eqb}
use lib.ListN.{set}
use borrow.Author.Tests.{eqb-true, eq-eqb, le-ltb}
use Rattle.machine.specs.Sizes.{session_count, step_max}
use Rattle.machine.specs.Words.{ARG, NO-SESSION, SEALED, NOT-SEALED}
use Rattle.machine.specs.Session.{sealed, is_sealed, validation_of}
use Rattle.machine.specs.State.{Slot, no_session, session, State, numbered, session_place, session_of, session_at}
use Rattle.machine.specs.Sound.{number_in, sound}
use Rattle.machine.specs.Expiry.{with_sessions, leave, finish}
use Rattle.machine.specs.Refusals.{refusals}
use Rattle.machine.specs.Effects.{Outcome, told, to_cache, effect}
use Rattle.machine.specs.declared.Session.{Session}
use Rattle.machine.specs.declared.Validation.{Validation}
use Rattle.machine.specs.declared.Answer.{Answer}
use Rattle.machine.specs.declared.Command.TheVariants.{Validate, Done, Undo}
use Rattle.machine.proofs.FirstRefusal
use Rattle.machine.proofs.SoundFacts as facts
use Rattle.lent.proofs.Choices.{clash, zero_one}
use Rattle.machine.proofs.SoundMeans.{sessions_length}
use Rattle.layout.specs.Fields.{session_in}
use Rattle.layout.specs.Search.{found}
use Rattle.layout.proofs.Search.{found-at, place_passes}
use Rattle.layout.proofs.Slots.{session_by}
use Rattle.outcome.specs.Outcome.{unless, tried}

-- ---- the session that was found, as it was loaded

-- the session of number n is x, at place i
pub record Located (s : State) (n i : ℕ) (x : Session) : Type 0 where
  pub place : session_place s n ≡ i
  pub is : session_at s i ≡ session x
  pub number : x.number ≡ n
  pub of : session_of s n ≡ session x

pub located : (s : State) (n : ℕ) {i : ℕ} {x : Session} → sound s ≡ true → x ≡ session_in (session_at s i) → (session_place s n ≡ i) × (i < session_count) → Located s n i x
located s n {i} {x} ok d (p, l) = go (session_at s i) refl (rw (← p) (place_passes (numbered n) no_session s.sessions (rw (sessions_length s ok, p) l)))
  where
    go : (e : Slot) → session_at s i ≡ e → numbered n (session_at s i) ≡ true → Located s n i x
    go no_session q h = clash false (rw q at h) refl
    go (session y) q h =
        let f : x ≡ y = d ∙ ap session_in q in
        rw f (record { place = p; is = q; number = eqb-true y.number n (rw q at h); of = ap (session_at s) p ∙ q })

-- the search r told of place i
pub located_at : (s : State) (n : ℕ) {i : ℕ} {x : Session} {r : Option ℕ} → sound s ≡ true → r ≡ found session_count (session_place s n) → r ≡ Some i → x ≡ session_in (session_at s i) → Located s n i x
located_at s n ok f q d = located s n ok d (found-at session_count _ _ (sym f ∙ q))

pub unlocated : (s : State) (n : ℕ) → sound s ≡ true → found session_count (session_place s n) ≡ None → session_of s n ≡ no_session
unlocated s n ok e = session_by s n (sessions_length s ok) e

module _ {s : State} {n i : ℕ} {x : Session} (w : Located s n i x) where
  pub number_same : {m : ℕ} → m ≡ number_in (session_at s i) → m ≡ n
  number_same e = e ∙ ap number_in w.is ∙ w.number

  pub number_here : {m : ℕ} → m ≡ n → numbered m (session_at s i) ≡ true
  number_here {m} e = rw w.is (eq-eqb x.number m (w.number ∙ sym e))

-- ---- what each comes to; 0 stands for the time, which none of the three looks at

-- by what VALIDATE found of the record at place i
abbrev pub validated : State → ℕ → ℕ → Validation → Outcome
validated s n i (Validation.Seals y) = told Answer.Validated (with_sessions s (set s.sessions i (session y)))
validated s n i Validation.Loses = told Answer.Lost (leave (n ∷ []) s)
validated s n i Validation.Clashes = told (Answer.Refused SEALED) s

module _ (s : State) (n : ℕ) where
  pub validate_far : (m : ℕ) → step_max < m → tried s 0 (Validate n m) [] ≡ told (Answer.Refused ARG) s
  unfolding tried
  validate_far m h = rw (FirstRefusal.validate_steps s n m [] h)

  -- the search r told of no session
  module _ (ok : sound s ≡ true) {r : Option ℕ} (f : r ≡ found session_count (session_place s n)) (q : r ≡ None) where
    nobody : session_of s n ≡ no_session
    nobody = unlocated s n ok (sym f ∙ q)

    pub undo_none : tried s 0 (Undo n) [] ≡ told (Answer.Refused NO-SESSION) s
    unfolding tried
    undo_none = rw (FirstRefusal.undo_not_live s n [] nobody)

    pub done_none : tried s 0 (Done n) [] ≡ told (Answer.Refused NO-SESSION) s
    unfolding tried
    done_none = rw (FirstRefusal.done_not_live s n [] nobody)

    pub validate_none : (m : ℕ) → m ≤ step_max → tried s 0 (Validate n m) [] ≡ told (Answer.Refused NO-SESSION) s
    unfolding tried
    validate_none m h = rw (FirstRefusal.validate_not_live s n m [] h nobody)

  -- the session x
  module _ {i : ℕ} {x : Session} (w : Located s n i x) where
    pub undo_is : tried s 0 (Undo n) [] ≡ told Answer.Undone (leave (n ∷ []) s)
    unfolding tried effect
    undo_is = rw (FirstRefusal.undo_none s n [] x w.of)

    pub done_open : is_sealed x ≡ false → tried s 0 (Done n) [] ≡ told (Answer.Refused NOT-SEALED) s
    unfolding tried
    done_open q = rw (FirstRefusal.done_open s n [] x w.of q)

    pub done_is : is_sealed x ≡ true → tried s 0 (Done n) [] ≡ told Answer.Done (finish (n ∷ []) to_cache s)
    unfolding tried effect
    done_is q = rw (FirstRefusal.done_none s n [] x w.of q)

    pub validate_by : (m : ℕ) {v : Validation} → m ≤ step_max → validation_of x m ≡ v → tried s 0 (Validate n m) [] ≡ validated s n i v
    unfolding tried refusals effect
    validate_by m h e = rw (le-ltb step_max m h, w.of, w.place, ← e) (go (eqb m x.count) (is_sealed x))
      where
        go : (t u : Bool) → unless (if u && not t then some SEALED else none) s (if t then validated s n i (Validation.Seals (sealed x)) else validated s n i Validation.Loses)
            ≡ validated s n i (if t then Validation.Seals (sealed x) else if u then Validation.Clashes else Validation.Loses)
        go true true = refl
        go true false = refl
        go false true = refl
        go false false = refl

    -- sealed, its record fits as it did
    pub seals_fit : sound s ≡ true → (m : ℕ) {y : Session} → validation_of x m ≡ Validation.Seals y → (0 < y.number) × (y.count < 2 ^ 16)
    seals_fit ok m {y} e = go (eqb m x.count) (is_sealed x) e
      where
        fits : (0 < x.number) × (x.count < 2 ^ 16)
        fits = let h = facts.session_count_lem s ok i w.is in ((facts.session_number s ok i w.is).0, omega arith)

        go : (t u : Bool) → (if t then Validation.Seals (sealed x) else if u then Validation.Clashes else Validation.Loses) ≡ Validation.Seals y → (0 < y.number) × (y.count < 2 ^ 16)
        go true u q = let f : sealed x ≡ y = cc in rw (← f) fits
        go false true q = zero_one cc
        go false false q = zero_one cc
