-- Whether a table has an entry that passes a test: told by the search for its place and by the count of the others, and of two tests. By
-- induction on the table.
use Rattle.std.specs.Prelude.{if◌then◌else◌, Option, Some, None, is_some}
use mathlib.Core.Path.{◌≡◌, refl, sym, ap, ap₂, ◌∙◌}
use mathlib.Core.Bool.{Bool, true, false, not, ◌&&◌, ◌||◌}
use mathlib.Core.List.{List, [], ◌∷◌, map}
use Prim.Native.Nat.{ℕ, suc, ◌+◌}
use native.Mathlib.Omega.{arith}
use lib.Dec.{leb, leb-suc-suc}
use lib.ListN.{length, length-map}
use borrow.Author.Tests.{lt-leb, not-true}
use mathlib.Core.Logic.{inl, inr}
use Rattle.lent.proofs.Choices.{clash, or_no, or_swap}
use Rattle.machine.specs.Tables.{place, any, count, find}
use Rattle.machine.proofs.Views.{find_test, any_at, any_mapped}
use Rattle.layout.specs.Search.{found}
use Rattle.layout.proofs.Search.{found-at, found_passes, found_full, count_most}
use Rattle.layout.proofs.Scans.{any-hit}

module _ {A : Type 0} (p : A → Bool) where
  -- ---- by the count of the others

  abbrev others : List A → ℕ
  others l = count (λ x. not (p x)) l

  full_length : (l : List A) → leb (length l) (others l) ≡ not (any p l)
  full_length [] = refl
  full_length (x ∷ l) = go (p x) (full_length l)
    where
      go : (t : Bool) → leb (length l) (others l) ≡ not (any p l) → leb (suc (length l)) ((if not t then 1 else 0) + others l) ≡ not (t || any p l)
      go true h = lt-leb (suc (length l)) (0 + others l) (omega (arith, count_most (λ x. not (p x)) l))
      go false h = let q : 1 + others l ≡ suc (others l) = omega arith in rw (q, leb-suc-suc (length l) (others l)) h

  pub full_any : (l : List A) (n : ℕ) → length l ≡ n → leb n (count (λ x. not (p x)) l) ≡ not (any p l)
  full_any l n e = rw (← e) (full_length l)

  -- ---- by the search for its place

  module _ (d : A) (l : List A) (n : ℕ) (e : length l ≡ n) where
    -- a search has found something exactly if an entry passes
    pub found-any : (f : Option ℕ) → f ≡ found n (place p l) → any p l ≡ is_some f
    found-any f a = go f (sym a)
      where
        go : (g : Option ℕ) → found n (place p l) ≡ g → any p l ≡ is_some g
        go (Some i) f = let q = found-at n (place p l) i f in any-hit p d l i (omega arith) (found_passes p d l n i e f)
        go None f = not-true (any p l) (sym (full_any l n e) ∙ found_full p d l n e f)

  -- ---- two tests

  pub any_or : (q : A → Bool) (l : List A) → any (λ x. p x || q x) l ≡ any p l || any q l
  any_or q [] = refl
  any_or q (x ∷ l) = ap (λ t. (p x || q x) || t) (any_or q l) ∙ or_swap (p x) (q x) (any p l) (any q l)

  -- whether all others are left of a table that is changed so that each that passes q passes p
  pub full_mapped : (f : A → A) (q : A → Bool) → ((x : A) → p (f x) ≡ p x || q x) → (l : List A) (n : ℕ) → length l ≡ n
      → leb n (count (λ x. not (p x)) (map f l)) ≡ not (any p l || any q l)
  full_mapped f q each l n e = full_any (map f l) n (length-map l f ∙ e) ∙ ap not (any_mapped p f (λ x. p x || q x) each l ∙ any_or q l)

  -- if each that passes one passes the other

  pub any_both : (q : A → Bool) (l : List A) → any (λ x. p x && not (q x)) l ≡ false → any (λ x. p x && q x) l ≡ any p l
  any_both q [] h = refl
  any_both q (x ∷ l) h = let b = or_no (p x && not (q x)) (any (λ x. p x && not (q x)) l) h in ap₂ ◌||◌ (go (p x) (q x) b.0) (any_both q l b.1)
    where
      go : (t u : Bool) → t && not u ≡ false → t && u ≡ t
      go true true e = refl
      go true false e = clash true refl e
      go false u e = refl

-- ---- what is not found: nothing passes q, which each that passes p does
pub find_none : {A : Type 0} (p q : A → Bool) (d : A) → q d ≡ false → ((x : A) → p x ≡ true → q x ≡ true) → (l : List A) → any q l ≡ false → find p d l ≡ d
find_none p q d e f l h = elim (find_test p d l) [ inl r ↦ r | inr r ↦ clash (any q l) (any_at q d l (place p l) e (f (find p d l) r)) h ]
