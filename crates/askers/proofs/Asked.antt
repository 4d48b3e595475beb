-- The session that asks, found by its number: the slot of that number decides between NO SESSION, SEALED and the open session, and what
-- stands there has the number.
use Rattle.machine.specs.declared.Refusal.{Refusal}
use Rattle.std.specs.Prelude.{if◌then◌else◌, Some, None, Result, Ok, Err}
use mathlib.Core.Path.{◌≡◌, refl, sym, ap, ◌∙◌}
use mathlib.Core.Bool.{Bool, true, false}
use mathlib.Core.List.{List, ◌∷◌}
use mathlib.Core.Logic.{◌⊎◌, inl, inr}
use mathlib.Core.Option.{Option, some}
use Prim.Native.Nat.{ℕ}
use lib.ListN.{length}
use borrow.Author.Tests.{eqb-true, eq-eqb}
use Rattle.lent.proofs.Choices.{zero_one}
use Rattle.machine.specs.Sizes.{session_count}
use Rattle.machine.specs.Tables.{first}
use Rattle.machine.specs.Session.{is_sealed}
use Rattle.machine.specs.State.{Slot, no_session, session, State, free, numbered, session_place, session_of, session_at}
use Rattle.machine.specs.Refusals.{not_live, sealed_in, sealed_slot}
use Rattle.machine.specs.Words.{NO-SESSION, SEALED}
use Rattle.machine.specs.declared.Session.{Session}
use Rattle.machine.proofs.Views.{find_test, no_session_lem}
use Rattle.layout.specs.Fields.{session_in}
use Rattle.layout.specs.Search.{found}
use Rattle.layout.proofs.Search.{found-at}
use Rattle.layout.proofs.Slots.{session_by}
use Rattle.askers.specs.Asker.{asker_at, asker_of}
use Rattle.askers.specs.declared.Asker.{Asker}

-- ---- what a search for the number finds

module _ (s : State) (l : length s.sessions ≡ session_count) (n : ℕ) where
  pub asker_none : found session_count (session_place s n) ≡ None → asker_of s n ≡ Err NO-SESSION
  unfolding asker_of
  asker_none e = rw (session_by s n l e)

  -- the session x at place i, by whether it is sealed
  pub asker_at_lem : {i : ℕ} {x : Session} {t : Bool} → found session_count (session_place s n) ≡ Some i → x ≡ session_in (session_at s i) → is_sealed x ≡ t
      → asker_of s n ≡ (if t then Err SEALED else Ok (record { place = i; session = x }))
  unfolding asker_of
  asker_at_lem {i} f e q = rw (session_by s n l f, (found-at session_count (session_place s n) i f).0, ← e, q)

-- ---- what the asker tells

-- a refusal, or what comes after it
abbrev pub refused_or : Result Asker Refusal → Option Refusal → Option Refusal
refused_or (Err e) o = some e
refused_or (Ok a) o = o

-- the session of number n is x, at place i, and open
pub record Asks (s : State) (n i : ℕ) (x : Session) : Type 0 where
  pub place : session_place s n ≡ i
  pub at : session_at s i ≡ session x
  pub number : x.number ≡ n

module _ (s : State) (n : ℕ) where
  pub first_asker : (l : List (Bool × Refusal)) → first ((not_live s n, NO-SESSION) ∷ (sealed_in s n, SEALED) ∷ l) ≡ refused_or (asker_of s n) (first l)
  unfolding asker_of
  first_asker l = go (session_of s n)
    where
      go : (e : Slot) → first ((free e, NO-SESSION) ∷ (sealed_slot e, SEALED) ∷ l) ≡ refused_or (asker_at (session_place s n) e) (first l)
      go no_session = refl
      go (session x) = go' (is_sealed x)
        where
          go' : (t : Bool) → (if t then some SEALED else first l) ≡ refused_or (if t then Err SEALED else Ok (record { place = session_place s n; session = x })) (first l)
          go' true = refl
          go' false = refl

  pub asks : (a : Asker) → asker_of s n ≡ Ok a → Asks s n a.place a.session
  unfolding asker_of
  asks a e = go (session_of s n) refl (find_test (numbered n) no_session s.sessions) e
    where
      go : (y : Slot) → session_of s n ≡ y → (y ≡ no_session) ⊎ (numbered n y ≡ true) → asker_at (session_place s n) y ≡ Ok a → Asks s n a.place a.session
      go no_session f p q = zero_one cc
      go (session y) f (inl p) q = no_session_lem y (sym p)
      go (session y) f (inr p) q = go' (is_sealed y) refl q
        where
          go' : (t : Bool) → is_sealed y ≡ t → (if t then Err SEALED else Ok (record { place = session_place s n; session = y })) ≡ Ok a → Asks s n a.place a.session
          go' true g r = zero_one cc
          go' false g r =
              let same : record { place = session_place s n; session = y } ≡ a = cc in
              let here : session_place s n ≡ a.place = ap (λ (z : Asker). z.place) same in
              let its : y ≡ a.session = ap (λ (z : Asker). z.session) same in
              let stands : session_of s n ≡ session a.session = f ∙ ap session its in
              record { place = here; at = rw here at stands; number = rw (← its) (eqb-true y.number n p) }

  -- found by the number that it has
  pub asks_own : (a : Asker) → asker_of s n ≡ Ok a → asker_of s a.session.number ≡ Ok a
  asks_own a e = ap (asker_of s) (asks a e).number ∙ e

-- the slot that asks has its number
pub asks-numbered : {s : State} {n i : ℕ} {x : Session} → Asks s n i x → numbered x.number (session_at s i) ≡ true
asks-numbered {x = x} a = rw a.at (eq-eqb x.number x.number refl)
