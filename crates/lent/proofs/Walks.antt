-- Tests of each index, of some index, the search for the first, and a step for each index: what a loop over the indices needs at a
-- turn, and what its result says of the indices. All by induction on the number of indices.
use Rattle.std.specs.Prelude.{if◌then◌else◌}
use mathlib.Core.Path.{◌≡◌, refl, sym, ap, ◌∙◌}
use mathlib.Core.Logic.{⊎_elim}
use mathlib.Core.Bool.{Bool, not-not, true, false, not, ◌&&◌, ◌||◌, and-true, and_assoc, or-true}
use Prim.Native.Nat.{ℕ, zero, suc, ◌+◌, ◌≤◌, ◌<◌}
use native.Mathlib.Nat.{eq-or-lt_of_le, le_of_suc-le-suc, not-suc-le-zero}
use native.Mathlib.Omega.{arith}
use native.Mathlib.Numerals.{add-one}
use borrow.Author.Tests.{not-true}
use Rattle.lent.specs.Tables.{every, some, first}
use Rattle.lent.proofs.Choices.{and_swap, and_yes, not_or, clash}

-- ---- each index

module _ (p : ℕ → Bool) where
  pub every-all : (n i : ℕ) → every p n ≡ true → i < n → p i ≡ true
  unfolding every
  every-all zero i e h = absurd (not-suc-le-zero h)
  every-all (suc n) i e h =
      let b = and_yes (every p n) (p n) e in
      ⊎_elim (λ q. rw q b.1) (λ l. every-all n i b.0 l) (eq-or-lt_of_le (le_of_suc-le-suc h))

  pub all-every : (n : ℕ) → ((i : ℕ) → i < n → p i ≡ true) → every p n ≡ true
  unfolding every
  all-every zero f = refl
  all-every (suc n) f = rw (all-every n (λ i h. f i (omega arith)), f n (omega arith))

  pub every_fails : (n i : ℕ) → i < n → p i ≡ false → every p n ≡ false
  every_fails n i h e = go (every p n) refl
    where
      go : (t : Bool) → every p n ≡ t → every p n ≡ false
      go true q = clash (p i) (every-all n i q h) e
      go false q = q

  -- a loop that tests each index, as it starts and a turn of it
  pub every-none : every p 0 ≡ true
  unfolding every
  every-none = refl

  pub every_more : (i : ℕ) → every p i ≡ true → p i ≡ true → every p (i + 1) ≡ true
  unfolding every
  every_more i h e = rw (add-one, h, e)

  pub every_front : (n : ℕ) → every p (suc n) ≡ p 0 && every (λ i. p (suc i)) n
  unfolding every
  every_front zero = sym (and-true (p 0))
  every_front (suc n) = rw (every_front n) (and_assoc (p 0) (every (λ i. p (suc i)) n) (p (suc n)))

pub every_both : (p q : ℕ → Bool) (n : ℕ) → every p n && every q n ≡ every (λ i. p i && q i) n
unfolding every
every_both p q zero = refl
every_both p q (suc n) = and_swap (every p n) (p n) (every q n) (q n) ∙ rw (every_both p q n)

pub every_cong : (p q : ℕ → Bool) (n : ℕ) → ((i : ℕ) → i < n → p i ≡ q i) → every p n ≡ every q n
unfolding every
every_cong p q zero f = refl
every_cong p q (suc n) f = rw (every_cong p q n (λ i h. f i (omega arith)), f n (omega arith))

-- a test of what is the same
pub every_ap : {A : Type 0} (p : A → Bool) (f g : ℕ → A) (n : ℕ) → ((i : ℕ) → i < n → f i ≡ g i) → every (λ i. p (f i)) n ≡ every (λ i. p (g i)) n
every_ap p f g n e = every_cong (λ i. p (f i)) (λ i. p (g i)) n (λ i l. ap p (e i l))

-- ---- some index

module _ (p : ℕ → Bool) where
  pub some_at : (n i : ℕ) → i < n → p i ≡ true → some p n ≡ true
  unfolding some
  some_at zero i h e = absurd (not-suc-le-zero h)
  some_at (suc n) i h e =
      ⊎_elim (λ q. rw (← q, e, or-true)) (λ l. rw (some_at n i l e)) (eq-or-lt_of_le (le_of_suc-le-suc h))

  pub some_is : (n : ℕ) → some p n ≡ true → (i : ℕ) × (i < n) × (p i ≡ true)
  unfolding some
  some_is zero e = clash false e refl
  some_is (suc n) e = go (some p n) e (some_is n)
    where
      go : (t : Bool) → t || p n ≡ true → (t ≡ true → (i : ℕ) × (i < n) × (p i ≡ true)) → (i : ℕ) × (i < suc n) × (p i ≡ true)
      go true r f = let w = f refl in (w.0, omega arith, w.2)
      go false r f = (n, omega arith, r)

  -- p holds at none if it fails at each
  not_some : (n : ℕ) → not (some p n) ≡ every (λ i. not (p i)) n
  unfolding some every
  not_some zero = refl
  not_some (suc n) = not_or (some p n) (p n) ∙ rw (not_some n)

  pub none-some : (n : ℕ) → ((i : ℕ) → i < n → p i ≡ false) → some p n ≡ false
  none-some n f = not-true (some p n) (not_some n ∙ all-every (λ i. not (p i)) n (λ i h. ap not (f i h)))

pub some_cong : (p q : ℕ → Bool) (n : ℕ) → ((i : ℕ) → i < n → p i ≡ q i) → some p n ≡ some q n
some_cong p q n f =
    let e : not (some p n) ≡ not (some q n) = not_some p n ∙ every_cong (λ i. not (p i)) (λ i. not (q i)) n (λ i h. ap not (f i h)) ∙ sym (not_some q n) in
    sym (not-not (some p n)) ∙ ap not e ∙ not-not (some q n)

-- ---- the first index

module _ {A : Type 0} (p : ℕ → Bool) (hit : ℕ → A) (miss : A) where
  -- what a search of the n indices from i comes to: the first at which p holds, or none
  pub data Search (r : A) (i n : ℕ) : Type 0 where
    found : (k : ℕ) → r ≡ hit k → i ≤ k → k < i + n → p k ≡ true → ((j : ℕ) → i ≤ j → j < k → p j ≡ false) → Search r i n
    nowhere : r ≡ miss → ((j : ℕ) → i ≤ j → j < i + n → p j ≡ false) → Search r i n

  pub first_search : (n i : ℕ) → Search (first p hit miss i n) i n
  unfolding first
  first_search zero i = nowhere refl (λ j a b. absurd (omega arith))
  first_search (suc n) i = turn (p i) refl (first_search n (suc i))
    where
      -- before j, or at it
      from : (j : ℕ) → i ≤ j → (p i ≡ false) → (suc i ≤ j → p j ≡ false) → p j ≡ false
      from j a e f = ⊎_elim (λ q. rw (← q) e) f (eq-or-lt_of_le a)

      turn : {r : A} (t : Bool) → p i ≡ t → Search r (suc i) n → Search (if t then hit i else r) i (suc n)
      turn true e s = found i refl (omega arith) (omega arith) e (λ j a b. absurd (omega arith))
      turn false e (found k q a b c f) = found k q (omega arith) (omega arith) c (λ j u v. from j u e (λ l. f j l v))
      turn false e (nowhere q f) = nowhere q (λ j u v. from j u e (λ l. f j l (omega arith)))

pub first_cong : {A : Type 0} (p q : ℕ → Bool) (hit : ℕ → A) (miss : A) (n i : ℕ) → ((k : ℕ) → i ≤ k → k < i + n → p k ≡ q k) → first p hit miss i n ≡ first q hit miss i n
unfolding first
first_cong p q hit miss zero i e = refl
first_cong p q hit miss (suc n) i e =
    rw (e i (omega arith) (omega arith), first_cong p q hit miss n (suc i) (λ k a b. e k (omega arith) (omega arith)))

-- ---- a step for each index

-- step 0, then step 1, and so on, n of them
unfoldable pub iter : {A : Type 0} → (ℕ → A → A) → ℕ → A → A
iter step zero a = a
iter step (suc n) a = step n (iter step n a)

pub iter-more : {A : Type 0} (step : ℕ → A → A) (i : ℕ) (a : A) → iter step (i + 1) a ≡ step i (iter step i a)
unfolding iter
iter-more step i a = rw add-one
