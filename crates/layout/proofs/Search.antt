-- What a search of a table tells of the table: the first place at which a test holds is the table's `place`, and where there is none, every
-- entry fails the test. So the lowest free place also tells whether a table is full.
use Rattle.std.specs.Prelude.{if◌then◌else◌, Option, Some, None}
use mathlib.Core.Path.{◌≡◌, refl, sym, ◌∙◌}
use mathlib.Core.Bool.{Bool, true, false, not}
use mathlib.Core.List.{List, [], ◌∷◌}
use Prim.Native.Nat.{ℕ, zero, suc, ◌+◌, ◌≤◌, ◌<◌}
use native.Mathlib.Omega.{arith}
use native.Mathlib.Numerals.{add-one}
use lib.Dec.{leb, ltb, leb-suc-suc}
use lib.ListN.{length, get_or, get_or-eq_default}
use borrow.Author.Tests.{le-leb, le-ltb, lt-leb, lt-ltb, ltb-false, ltb-true}
use denote.Param.Members.{Mut}
use denote.Ref.{Bor}
use Rattle.std.specs.Fn.{CalledAt}
use Rattle.std.specs.Iterator.{FindsItem}
use Rattle.std.specs.List.{range_with_len, find as find_in}
use Rattle.std.specs.declared.ops.Range.{Range}
use Rattle.std.proofs.iter.Yields.{nat_range_steps}
use Rattle.std.proofs.lemmas.Iterator.{YieldsList-from_range}
use Rattle.std.proofs.lemmas.Iterator.Adapters.{option_map_id}
use Rattle.std.proofs.lemmas.Iterator.Search.{find_from_yields_List}
use Rattle.lent.specs.Tables.{first}
use Rattle.lent.proofs.Walks.{Search, found, nowhere, first_search, first_cong}
use Rattle.lent.proofs.Choices.{if_ind, zero_one}
use Rattle.machine.specs.Tables.{place, find, count}
use Rattle.layout.specs.Search.{found as found_at, Below}

-- ---- what is found

pub found-at : (n i j : ℕ) → found_at n i ≡ Some j → (i ≡ j) × (j < n)
found-at n i j = if_ind (λ (r : Option ℕ). r ≡ Some j → (i ≡ j) × (j < n)) (ltb i n) (λ q f. let g : i ≡ j = cc in (g, rw (← g) (ltb-true i n q))) (λ q f. zero_one cc)

pub found_nothing : (n i : ℕ) → found_at n i ≡ None → n ≤ i
found_nothing n i = if_ind (λ (r : Option ℕ). r ≡ None → n ≤ i) (ltb i n) (λ q f. zero_one cc) (λ q f. ltb-false i n q)

pub found_below : (n i : ℕ) (r : Option ℕ) → r ≡ Some i → Below n r → i < n
found_below n i r e h = rw e at h

-- ---- the first number that passes

module _ (p : ℕ → Bool) where
  find-first : (n i : ℕ) → find_in p (range_with_len i n) ≡ first p Some None i n
  unfolding first
  find-first zero i = refl
  find-first (suc n) i = rw (find-first n (i + 1), add-one)

  first_below : (n i m : ℕ) → i + n ≡ m → Below m (first p Some None i n)
  unfolding first
  first_below zero i m e = tt
  first_below (suc n) i m e = if_ind (Below m) (p i) (λ q. omega (arith, e)) (λ q. first_below n (suc i) m (omega (arith, e)))

-- `find` over the first n numbers, where the closure answers p of each
pub first_told : {F : Type 0} {g : Mut F (Bor ℕ × Unit {0}) Bool} (p : ℕ → Bool) {n : ℕ} (u : Range ℕ) {f : F} (r : Option ℕ) → FindsItem nat_range_steps g (record { start = 0; end = n }) f r u
    → ((x : ℕ) (b : Bool) (q : F) → CalledAt g f x b q → (q ≡ f) × (b ≡ p x)) → (r ≡ first p Some None 0 n) × Below n r
first_told p {n = n} u {f = f} r ran e =
    let q : r ≡ first p Some None 0 n = sym (option_map_id r) ∙ find_from_yields_List p u f r ran (YieldsList-from_range 0 n n refl (omega arith)) e ∙ find-first p n 0 in
    (q, rw q (first_below p n 0 n (omega arith)))

-- ---- how many pass

pub count_most : {A : Type 0} (p : A → Bool) (l : List A) → count p l ≤ length l
count_most p [] = omega arith
count_most p (x ∷ l) = go (p x) (count_most p l)
  where
    go : (t : Bool) → count p l ≤ length l → (if t then 1 else 0) + count p l ≤ suc (length l)
    go true h = omega arith
    go false h = omega arith

-- ---- the place of the first that passes

module _ {A : Type 0} (p : A → Bool) (d : A) where
  place_is : (l : List A) (i : ℕ) → i < length l → p (get_or l i d) ≡ true → ((j : ℕ) → j < i → p (get_or l j d) ≡ false) → place p l ≡ i
  place_is [] i h e f = absurd (omega arith)
  place_is (x ∷ l) zero h e f = rw e
  place_is (x ∷ l) (suc i) h e f = rw (f 0 (omega arith), place_is l i (omega arith) e (λ j k. f (suc j) (omega arith)))

  place_none : (l : List A) → ((j : ℕ) → j < length l → p (get_or l j d) ≡ false) → place p l ≡ length l
  place_none [] f = refl
  place_none (x ∷ l) f = rw (f 0 (omega arith), place_none l (λ j k. f (suc j) (omega arith)))

  pub place_passes : (l : List A) → place p l < length l → p (get_or l (place p l) d) ≡ true
  place_passes [] h = absurd (omega arith)
  place_passes (x ∷ l) h = go (p x) refl h (place_passes l)
    where
      go : (t : Bool) → p x ≡ t → (if t then 0 else suc (place p l)) < suc (length l) → (place p l < length l → p (get_or l (place p l) d) ≡ true)
          → p (get_or (x ∷ l) (if t then 0 else suc (place p l)) d) ≡ true
      go true e k f = e
      go false e k f = f (omega arith)

  -- a search by index
  first-place : (l : List A) (n : ℕ) → length l ≡ n → first (λ i. p (get_or l i d)) Some None 0 n ≡ found_at n (place p l)
  first-place l n e = go (first_search (λ i. p (get_or l i d)) Some None n 0)
    where
      go : {r : Option ℕ} → Search (λ i. p (get_or l i d)) Some None r 0 n → r ≡ found_at n (place p l)
      go (found k q a b c f) = q ∙ rw (place_is l k (omega arith) c (λ j h. f j (omega arith) h), lt-ltb k n (omega arith))
      go (nowhere q f) = q ∙ rw (place_none l (λ j h. f j (omega arith) (omega arith)), e, le-ltb n n (omega arith))

  -- what stands at the place that was found, and what is found in its stead where there is none
  pub found_passes : (l : List A) (n i : ℕ) → length l ≡ n → found_at n (place p l) ≡ Some i → p (get_or l i d) ≡ true
  found_passes l n i e f = let q = found-at n (place p l) i f in rw (← q.0) (place_passes l (omega arith))

  pub found_entry : (l : List A) (n i : ℕ) → found_at n (place p l) ≡ Some i → find p d l ≡ get_or l i d
  found_entry l n i f = rw (found-at n (place p l) i f).0

  pub nothing_entry : (l : List A) (n : ℕ) → length l ≡ n → found_at n (place p l) ≡ None → find p d l ≡ d
  nothing_entry l n e f = let q = found_nothing n (place p l) f in get_or-eq_default l d (omega arith)

  -- a search by a test of its own, which says at each place what the entry there says
  pub first_held : (q : ℕ → Bool) (l : List A) (n : ℕ) → length l ≡ n → ((i : ℕ) → i < n → q i ≡ p (get_or l i d)) → first q Some None 0 n ≡ found_at n (place p l)
  first_held q l n e f = first_cong q (λ i. p (get_or l i d)) Some None n 0 (λ i z k. f i (omega arith)) ∙ first-place l n e

  pub found_none : (l : List A) (n : ℕ) → length l ≡ n → ((i : ℕ) → i < n → p (get_or l i d) ≡ false) → found_at n (place p l) ≡ None
  found_none l n e f = rw (place_none l (λ i k. f i (omega arith)), e, le-ltb n n (omega arith))

  -- ---- a full table: none is free

  abbrev others : List A → ℕ
  others l = count (λ x. not (p x)) l

  full_place : (l : List A) → leb (length l) (others l) ≡ leb (length l) (place p l)
  full_place [] = refl
  full_place (x ∷ l) = go (p x) (full_place l)
    where
      go : (t : Bool) → leb (length l) (others l) ≡ leb (length l) (place p l) → leb (suc (length l)) ((if not t then 1 else 0) + others l) ≡ leb (suc (length l)) (if t then 0 else suc (place p l))
      go true h = lt-leb (suc (length l)) (0 + others l) (omega (arith, count_most (λ x. not (p x)) l)) ∙ sym (lt-leb (suc (length l)) 0 (omega arith))
      go false h = let q : 1 + others l ≡ suc (others l) = omega arith in rw (q, leb-suc-suc (length l) (others l), leb-suc-suc (length l) (place p l)) h

  pub found_full : (l : List A) (n : ℕ) → length l ≡ n → found_at n (place p l) ≡ None → leb n (count (λ x. not (p x)) l) ≡ true
  found_full l n e f = let q = found_nothing n (place p l) f in rw (← e) (full_place l ∙ le-leb (length l) (place p l) (omega arith))

  pub found_room : (l : List A) (n i : ℕ) → length l ≡ n → found_at n (place p l) ≡ Some i → leb n (count (λ x. not (p x)) l) ≡ false
  found_room l n i e f = let q = found-at n (place p l) i f in rw (← e) (full_place l ∙ lt-leb (length l) (place p l) (omega arith))
