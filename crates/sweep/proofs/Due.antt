-- Sessions have different numbers, so to end those of some numbers is to free the places of those sessions: who is among the numbers of
-- the sessions that pass a test passes it itself.
use mathlib.Core.Path.{◌≡◌, refl, sym, ap, ◌∙◌}
use mathlib.Core.Bool.{Bool, true, false}
use mathlib.Core.Logic.{◌⊎◌, inl, inr}
use mathlib.Core.List.{List, map}
use Prim.Native.Nat.{ℕ}
use lib.ListN.{get_or, length-map, get_or-map}
use borrow.Author.Tests.{eqb-true}
use Rattle.lent.proofs.Choices.{case_of, clash}
use Rattle.machine.specs.Tables.{place, find, mem}
use Rattle.machine.specs.Session.{is_due}
use Rattle.machine.specs.State.{Slot, no_session, session, numbered}
use Rattle.machine.specs.Expiry.{free_session, those}
use Rattle.machine.specs.declared.Session.{Session}
use Rattle.machine.proofs.Views.{find_passes, among_those, those_has}
use Rattle.deadlines.specs.Deadlines.{due_slot}
use Rattle.endings.proofs.Numbers.{Distinct, slots_are}
use Rattle.sweep.specs.Lapsing.{free_due}

module _ (l : List Slot) (d : Distinct l) where
  -- by its number a session is found among those that pass
  among_is : (p : Session → Bool) (i : ℕ) (x : Session) → get_or l i no_session ≡ session x → mem x.number (those p l) ≡ p x
  among_is p i x e = go (case_of (p x)) (case_of (mem x.number (those p l)))
    where
      go : (p x ≡ true) ⊎ (p x ≡ false) → (mem x.number (those p l) ≡ true) ⊎ (mem x.number (those p l) ≡ false) → mem x.number (those p l) ≡ p x
      go (inl q) r = those_has p l i x e q ∙ sym q
      go (inr q) (inr r) = r ∙ sym q
      go (inr q) (inl r) =
          let w = among_those p l x.number r in
          let same : w.0 ≡ i = d w.0 i w.1 x w.2 e w.3 in
          let eq : session w.1 ≡ session x = sym w.2 ∙ ap (λ (j : ℕ). get_or l j no_session) same ∙ e in
          let f : w.1 ≡ x = cc in
          clash (p x) (rw f at w.4) q

  -- the sessions that are due end: each by itself
  pub due_freed : (now : ℕ) → map (free_session (those (is_due now) l)) l ≡ map (free_due now) l
  due_freed now = slots_are (free_session (those (is_due now) l)) l (map (free_due now) l) refl (length-map l (free_due now)) (λ i. at i (get_or l i no_session) refl ∙ sym (get_or-map (free_due now) l i no_session))
    where
      at : (i : ℕ) (e : Slot) → get_or l i no_session ≡ e → free_session (those (is_due now) l) e ≡ free_due now e
      at i no_session q = refl
      at i (session x) q = rw (among_is (is_due now) i x q)

  -- and for a number that some session has
  pub due-number : (now n i : ℕ) → numbered n (get_or l i no_session) ≡ true → mem n (those (is_due now) l) ≡ due_slot now (find (numbered n) no_session l)
  due-number now n i h = at (find (numbered n) no_session l) refl (find_passes (numbered n) no_session l i refl h)
    where
      at : (e : Slot) → find (numbered n) no_session l ≡ e → numbered n e ≡ true → mem n (those (is_due now) l) ≡ due_slot now e
      at no_session q k = clash false k refl
      at (session x) q k = let f : x.number ≡ n = eqb-true x.number n k in rw (← f) (among_is (is_due now) (place (numbered n) l) x q)
