-- Numbers one after the other, and which of them are new: a number is new if it is 0 or none before it is the same, and all are distinct if each
-- is new in its turn.
use Rattle.std.proofs.Common.{◌≡◌, ℕ, ◌+◌, ◌<◌, ◌≤◌, Bool, true, false, not, eqb, ◌⊎◌, sym, refl, ap, ◌∙◌, inl, inr, ⊎_elim, eq-or-lt_of_le, arith, eq-eqb, ne_eqb, eqb-true}
use lib.Bits.{bit_or}
use borrow.Author.Tests.{eqb-false}
use Rattle.lent.specs.Tables.{every}
use Rattle.lent.proofs.Choices.{case_of, and_yes}
use Rattle.lent.proofs.Zeros.{eqb_or}
use Rattle.lent.proofs.Walks.{all-every, every-none, every_more, every_fails, every_cong}
use Rattle.machine.proofs.Every.{distinct-same}
use Rattle.machine.specs.Sound.{new_at, distinct}

-- below i + 1: at i, or below it
pub last_or : (j i : ℕ) → j < i + 1 → (j ≡ i) ⊎ (j < i)
last_or j i h = eq-or-lt_of_le (omega arith)

-- equal or not
pub same_or : (a b : ℕ) → (a ≡ b) ⊎ (a ≡ b → ⊥)
same_or a b = go (eqb a b) refl
  where
    go : (t : Bool) → eqb a b ≡ t → (a ≡ b) ⊎ (a ≡ b → ⊥)
    go true e = inl (eqb-true a b e)
    go false e = inr (eqb-false a b e)

-- what `|` makes of two is 0 only if both are
pub or_none : (a b : ℕ) → bit_or a b ≡ 0 → (a ≡ 0) × (b ≡ 0)
or_none a b e = let o = and_yes (eqb a 0) (eqb b 0) (sym (eqb_or a b) ∙ eq-eqb _ 0 e) in (eqb-true a 0 o.0, eqb-true b 0 o.1)

-- ---- a number that is new

module _ (f : ℕ → ℕ) (i n : ℕ) (is : n ≡ f i) where
  pub new-zero : n ≡ 0 → new_at f i ≡ true
  unfolding new_at
  new-zero e = rw (eq-eqb (f i) 0 (sym is ∙ e))

  pub new_used : (n ≡ 0 → ⊥) → new_at f i ≡ every (λ j. not (eqb (f j) n)) i
  unfolding new_at
  new_used z = rw (ne_eqb (f i) 0 (λ y. z (is ∙ y)), is)

  pub new_unlike : (n ≡ 0 → ⊥) → ((j : ℕ) → j < i → f j ≡ n → ⊥) → new_at f i ≡ true
  new_unlike z g = new_used z ∙ all-every (λ j. not (eqb (f j) n)) i (λ j l. ap not (ne_eqb (f j) n (g j l)))

-- among numbers that are the same
pub new_cong : (f g : ℕ → ℕ) (i : ℕ) → ((j : ℕ) → j ≤ i → f j ≡ g j) → new_at f i ≡ new_at g i
unfolding new_at
new_cong f g i e =
    let q : every (λ j. not (eqb (f j) (g i))) i ≡ every (λ j. not (eqb (g j) (g i))) i
    = every_cong (λ j. not (eqb (f j) (g i))) (λ j. not (eqb (g j) (g i))) i (λ j h. ap (λ (x : ℕ). not (eqb x (g i))) (e j (omega arith))) in
    rw (e i (omega arith), q)

-- ---- distinct numbers

pub distinct_cong : (f g : ℕ → ℕ) (m : ℕ) → ((i : ℕ) → i < m → f i ≡ g i) → distinct f m ≡ distinct g m
unfolding distinct
distinct_cong f g m e = every_cong (new_at f) (new_at g) m (λ i h. new_cong f g i (λ j l. e j (omega arith)))

pub distinct_none : (f : ℕ → ℕ) → distinct f 0 ≡ true
unfolding distinct
distinct_none f = every-none (new_at f)

pub distinct_more : (f : ℕ → ℕ) (i : ℕ) → distinct f i ≡ true → new_at f i ≡ true → distinct f (i + 1) ≡ true
unfolding distinct
distinct_more f = every_more (new_at f)

pub distinct_fails : (f : ℕ → ℕ) (m i : ℕ) → i < m → new_at f i ≡ false → distinct f m ≡ false
unfolding distinct
distinct_fails f = every_fails (new_at f)

pub all_new : (f : ℕ → ℕ) (m : ℕ) → ((i j : ℕ) → i < m → j < i → (f i ≡ 0 → ⊥) → f j ≡ f i → ⊥) → distinct f m ≡ true
unfolding distinct
all_new f m g =
    all-every (new_at f) m
    (λ i h. ⊎_elim
    (λ e. new-zero f i (f i) refl e)
    (λ z. new_unlike f i (f i) refl z (λ j l. g i j h l z))
    (same_or (f i) 0))

-- a number that is not 0 at two places
pub twice_same : (f : ℕ → ℕ) (m i j : ℕ) → i < m → j < m → (i ≡ j → ⊥) → (f i ≡ 0 → ⊥) → f i ≡ f j → distinct f m ≡ false
twice_same f m i j h l d z e = ⊎_elim (λ t. absurd (d (distinct-same f m i j t h l (omega arith) e))) (λ n. n) (case_of (distinct f m))
