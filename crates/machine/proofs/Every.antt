-- A walk over pairs of indices passes exactly if each pair does, and one that asks for distinct numbers exactly if no two are the same.
-- What holds of the free entry holds past a table's end, so what a walk over a table tests is had for every place.
use mathlib.Core.Path.{◌≡◌, sym, ap, ◌∙◌}
use mathlib.Core.Bool.{Bool, true, false, not}
use mathlib.Core.Logic.{◌⊎◌, inl, inr}
use mathlib.Core.List.{List}
use Prim.Native.Nat.{ℕ, ◌≤◌, ◌<◌}
use native.Mathlib.Omega.{arith}
use lib.Dec.{eqb, ltb}
use lib.ListN.{length, get_or, get_or-eq_default}
use borrow.Author.Tests.{eqb-true, eqb-false, eq-eqb, ne_eqb, ltb-true, ltb-false, not-true}
use Rattle.lent.specs.Tables.{every}
use Rattle.lent.proofs.Walks.{every-all, all-every}
use Rattle.lent.proofs.Choices.{case_of, clash}
use Rattle.machine.specs.Sound.{new_at, distinct}

-- pairs, the lower index first
module _ (q : ℕ → ℕ → Bool) where
  pub pairs-all : (n i j : ℕ) → every (λ i. every (λ j. q j i) i) n ≡ true → i < n → j < i → q j i ≡ true
  pairs-all n i j e h l = every-all (λ j. q j i) i j (every-all (λ i. every (λ j. q j i) i) n i e h) l

  pub all-pairs : (n : ℕ) → ((i j : ℕ) → i < n → j < i → q j i ≡ true) → every (λ i. every (λ j. q j i) i) n ≡ true
  all-pairs n f = all-every (λ i. every (λ j. q j i) i) n (λ i h. all-every (λ j. q j i) i (λ j l. f i j h l))

-- one of three orders
pub order : (i j : ℕ) → (i ≡ j) ⊎ ((i < j) ⊎ (j < i))
order i j = go (case_of (eqb i j)) (case_of (ltb i j))
  where
    go : (eqb i j ≡ true) ⊎ (eqb i j ≡ false) → (ltb i j ≡ true) ⊎ (ltb i j ≡ false) → (i ≡ j) ⊎ ((i < j) ⊎ (j < i))
    go (inl e) l = inl (eqb-true i j e)
    go (inr e) (inl l) = inr (inl (ltb-true i j l))
    go (inr e) (inr l) = inr (inr (let a = eqb-false i j e in let b = ltb-false i j l in omega arith))

-- numbers that are not 0
module _ (f : ℕ → ℕ) where
  new-differs : (i j : ℕ) → new_at f i ≡ true → 1 ≤ f i → j < i → f j ≡ f i → ⊥
  unfolding new_at
  new-differs i j e h l q = clash (eqb (f j) (f i)) (eq-eqb (f j) (f i) q) (not-true _ (every-all (λ j. not (eqb (f j) (f i))) i j (rw (ne_eqb (f i) 0 (λ z. omega arith)) at e) l))

  pub distinct-same : (n i j : ℕ) → distinct f n ≡ true → i < n → j < n → 1 ≤ f i → f i ≡ f j → i ≡ j
  unfolding distinct
  distinct-same n i j e h l a q = go (order i j)
    where
      go : (i ≡ j) ⊎ ((i < j) ⊎ (j < i)) → i ≡ j
      go (inl x) = x
      go (inr (inl x)) = absurd (new-differs j i (every-all (new_at f) n j e l) (omega arith) x q)
      go (inr (inr x)) = absurd (new-differs i j (every-all (new_at f) n i e h) a x (sym q))

  pub same-distinct : (n : ℕ) → ((i j : ℕ) → 1 ≤ f i → f i ≡ f j → i ≡ j) → distinct f n ≡ true
  unfolding distinct new_at
  same-distinct n g = all-every (new_at f) n (λ i h. at i (case_of (eqb (f i) 0)))
    where
      at : (i : ℕ) → (eqb (f i) 0 ≡ true) ⊎ (eqb (f i) 0 ≡ false) → new_at f i ≡ true
      at i (inl e) = rw e
      at i (inr e) = rw e (all-every (λ j. not (eqb (f j) (f i))) i (λ j l. rw (ne_eqb (f j) (f i) (λ q. let z = eqb-false (f i) 0 e in let w = g j i (omega arith) q in omega arith))))

-- the numbers of a table's records, none of them 0: two records of one number stand at one place
pub distinct_alone : {A B : Type 0} (at : ℕ → A) (number : A → ℕ) (a : B → A) (n : ℕ) → distinct (λ i. number (at i)) n ≡ true → ((i : ℕ) (x : B) → at i ≡ a x → (i < n) × (1 ≤ number (a x)))
    → (i j : ℕ) (x y : B) → at i ≡ a x → at j ≡ a y → number (a x) ≡ number (a y) → i ≡ j
distinct_alone at number a n d f i j x y p q t =
    distinct-same (λ i. number (at i)) n i j d (f i x p).0 (f j y q).0 (rw p (f i x p).1) (cc)

-- the other way round: where each record with a number is one of these, and no two at two places have the same, the numbers are distinct
pub alone_distinct : {A B : Type 0} (at : ℕ → A) (number : A → ℕ) (a : B → A) (n : ℕ) → ((e : A) → 1 ≤ number e → (x : B) × (e ≡ a x)) → ((i j : ℕ) (x y : B) → at i ≡ a x → at j ≡ a y → number (a x) ≡ number (a y) → i ≡ j)
    → distinct (λ i. number (at i)) n ≡ true
alone_distinct at number a n named alone = same-distinct (λ i. number (at i)) n (λ i j h q. let x = named (at i) h in let y = named (at j) (omega arith) in alone i j x.0 y.0 x.1 y.1 (sym (ap number x.1) ∙ q ∙ ap number y.1))

-- a place where something is unlike the free entry is inside the table
module _ {A : Type 0} (l : List A) (d : A) where
  pub place_inside : {B : Type 0} (part : A → B) (n i : ℕ) (b : B) → (part d ≡ b → ⊥) → length l ≡ n → part (get_or l i d) ≡ b → i < n
  place_inside part n i b f c q = go (case_of (ltb i n))
    where
      go : (ltb i n ≡ true) ⊎ (ltb i n ≡ false) → i < n
      go (inl e) = ltb-true i n e
      go (inr e) = let h = ltb-false i n e in absurd (f (sym (ap part (get_or-eq_default l d {n = i} (omega arith))) ∙ q))

  -- a test that the free entry passes: at each place below the length, so at every place
  pub every-place : (p : A → Bool) (n : ℕ) → length l ≡ n → p d ≡ true → every (λ i. p (get_or l i d)) n ≡ true → (i : ℕ) → p (get_or l i d) ≡ true
  every-place p n e q h i = go (case_of (ltb i n))
    where
      go : (ltb i n ≡ true) ⊎ (ltb i n ≡ false) → p (get_or l i d) ≡ true
      go (inl x) = every-all (λ i. p (get_or l i d)) n i h (ltb-true i n x)
      go (inr x) = let b = ltb-false i n x in rw (get_or-eq_default l d {n = i} (omega arith)) q
