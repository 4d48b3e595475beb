-- Sessions have different numbers, so to end the session of one number is to free one place.
use mathlib.Core.Path.{◌≡◌, refl, sym, ap, ◌∙◌}
use mathlib.Core.Bool.{true, false}
use mathlib.Core.Logic.{◌⊎◌, inl, inr}
use mathlib.Core.List.{List, [], ◌∷◌, map}
use Prim.Native.Nat.{ℕ}
use lib.Dec.{eqb}
use lib.ListN.{length, get_or, set, length-map, length-set, get_or-map}
use lib.Seq.{ext_get_or}
use borrow.Author.Tests.{eqb-true, eq-eqb}
use Rattle.lent.proofs.Choices.{case_of, clash}
use Rattle.machine.specs.Tables.{mem}
use Rattle.machine.specs.State.{Slot, no_session, session, numbered}
use Rattle.machine.specs.Expiry.{free_session}
use Rattle.machine.specs.declared.Session.{Session}
use Rattle.machine.proofs.Views.{AfterSet, other, here, out, after-set, mem-one, no_session_lem}

-- no two sessions have one number
abbrev pub Distinct : List Slot → Type 0
Distinct l = (i j : ℕ) (x y : Session) → get_or l i no_session ≡ session x → get_or l j no_session ≡ session y → x.number ≡ y.number → i ≡ j

-- a map on the sessions, place by place
pub slots_are : (f : Slot → Slot) (l m : List Slot) → f no_session ≡ no_session → length m ≡ length l → ((i : ℕ) → f (get_or l i no_session) ≡ get_or m i no_session) → map f l ≡ m
slots_are f l m e n same =
    ext_get_or no_session (map f l) m (length-map l f ∙ sym n) (λ i h. sym (ap (get_or (map f l) i) e) ∙ get_or-map f l i no_session ∙ same i)

module _ (l : List Slot) (d : Distinct l) where
  -- the session of one number ends: its place is freed
  pub one_freed : (n i : ℕ) → numbered n (get_or l i no_session) ≡ true → map (free_session (n ∷ [])) l ≡ set l i no_session
  one_freed n i h = slots_are (free_session (n ∷ [])) l (set l i no_session) refl (length-set l i no_session) (λ j. at j (get_or l j no_session) refl (after-set l i no_session j no_session))
    where
      -- a session elsewhere has another number
      elsewhere : (e : Slot) (j : ℕ) (x : Session) → get_or l i no_session ≡ e → numbered n e ≡ true → get_or l j no_session ≡ session x → (i ≡ j → ⊥) → (mem x.number (n ∷ []) ≡ true) ⊎ (mem x.number (n ∷ []) ≡ false) → mem x.number (n ∷ []) ≡ false
      elsewhere no_session j x q k r apart m = clash false k refl
      elsewhere (session y) j x q k r apart (inl m) = absurd (apart (d i j y x q r (eqb-true y.number n k ∙ sym (mem-one x.number n m))))
      elsewhere (session y) j x q k r apart (inr m) = m

      at : (j : ℕ) (e : Slot) → get_or l j no_session ≡ e → AfterSet l i no_session j no_session → free_session (n ∷ []) e ≡ get_or (set l i no_session) j no_session
      at j no_session q (other apart r) = sym (r ∙ q)
      at j no_session q (here same r) = sym r
      at j no_session q (out same r t) = sym r
      at j (session x) q (other apart r) = rw (elsewhere (get_or l i no_session) j x refl h q apart (case_of (mem x.number (n ∷ [])))) (sym (r ∙ q))
      at j (session x) q (here same r) =
          let f : eqb x.number n ≡ true = rw q at (rw same at h) in
          rw (eqb-true x.number n f, eq-eqb n n refl) (sym r)
      at j (session x) q (out same r t) = no_session_lem x (sym t ∙ q)
