-- Lists with the same elements: `same` is equality, and it goes part by part, so that a record is compared window by window.
use mathlib.Core.Path.{◌≡◌, refl, sym, ap, ◌∙◌}
use mathlib.Core.Bool.{Bool, true, false, ◌&&◌, and-true, and_assoc}
use mathlib.Core.List.{List, [], ◌∷◌, ◌++◌}
use Prim.Native.Nat.{ℕ, ◌+◌, ◌-◌, ◌≤◌, ◌<◌}
use native.Mathlib.Numerals.{add-one}
use native.Mathlib.Omega.{arith}
use lib.ListN.{length, get_or, take, drop, length-append}
use lib.Seq.{drop_at, length-take-le, take_at, take-suc}
use lib.Bits.{bit_or, bit_xor, and_le_l, and_le_r, xor_add_and, xor_self}
use lib.Dec.{eqb}
use borrow.Author.Tests.{eq-eqb, eqb-false, eqb-true, ne_eqb}
use Rattle.lent.specs.Bytes.{win, zeros}
use Rattle.lent.specs.Tables.{all_zero, same}
use Rattle.lent.proofs.Choices.{and_yes, clash}
use Rattle.lent.proofs.Splice.{length-win, win-add, win-one}
use Rattle.lent.proofs.Zeros.{eqb_or}

-- ---- same and equal

pub same_refl : (l : List ℕ) → same l l ≡ true
unfolding same
same_refl [] = refl
same_refl (x ∷ l) = rw (eq-eqb x x refl, same_refl l)

pub same_eq : (k l : List ℕ) → same k l ≡ true → k ≡ l
unfolding same
same_eq [] [] e = refl
same_eq [] (y ∷ l) e = clash false e refl
same_eq (x ∷ k) [] e = clash false e refl
same_eq (x ∷ k) (y ∷ l) e =
    let b = and_yes (eqb x y) (same k l) e in
    rw (eqb-true x y b.0, same_eq k l b.1)

pub eq_same : (k l : List ℕ) → k ≡ l → same k l ≡ true
eq_same k l e = rw e (same_refl l)

pub same_lengths : (k l : List ℕ) → (length k ≡ length l → ⊥) → same k l ≡ false
same_lengths k l n = go (same k l) refl
  where
    go : (t : Bool) → same k l ≡ t → t ≡ false
    go true e = absurd (n (ap length (same_eq k l e)))
    go false e = refl

pub same-zeros : (l : List ℕ) (n : ℕ) → length l ≡ n → same l (zeros n) ≡ all_zero l
unfolding same all_zero
same-zeros [] n e = rw (← e)
same-zeros (x ∷ l) n e = rw (← e, same-zeros l (length l) refl)

pub zero_and_rest : (n : ℕ) (l : List ℕ) → all_zero (n ∷ l) ≡ true → (n ≡ 0) × (all_zero l ≡ true)
unfolding all_zero
zero_and_rest n l e = let r = and_yes (eqb n 0) (all_zero l) e in (eqb-true n 0 r.0, r.1)

-- ---- part by part

-- x falls into a front as long as p, and the rest
pub same_split : (x p q : List ℕ) (m : ℕ) → length p ≡ m → m ≤ length x → same x (p ++ q) ≡ same (take m x) p && same (drop m x) q
unfolding same
same_split x [] q m e h = rw (← e)
same_split [] (y ∷ p) q m e h = absurd (omega arith)
same_split (z ∷ x) (y ∷ p) q m e h =
    rw (← e) (rw (same_split x p q (length p) refl (omega arith)) (sym (and_assoc (eqb z y) (same (take (length p) x) p) (same (drop (length p) x) q))))

same-append : (x y p q : List ℕ) (m : ℕ) → length x ≡ m → length p ≡ m → same (x ++ y) (p ++ q) ≡ same x p && same y q
same-append x y p q m e f =
    same_split (x ++ y) p q m f (simp length-append (omega arith)) ∙ rw (take_at x y m e, drop_at x y m e)

module _ (s : List ℕ) (a m n : ℕ) (p q : List ℕ) (e : length p ≡ m) (h : a + (m + n) ≤ length s) where
  pub same-win : same (win s a (m + n)) (p ++ q) ≡ same (win s a m) p && same (win s (a + m) n) q
  same-win = rw (win-add s a m n) (same-append (win s a m) (win s (a + m) n) p q m (length-win s a m (omega arith)) e)

  -- the front is the same
  same_skip : win s a m ≡ p → same (win s a (m + n)) (p ++ q) ≡ same (win s (a + m) n) q
  same_skip f = same-win ∙ rw (f, same_refl p)

-- one byte
pub same-one : (s : List ℕ) (a v : ℕ) → a < length s → same (win s a 1) (v ∷ []) ≡ eqb (get_or s a 0) v
unfolding same
same-one s a v h = rw (win-one s a h) (and-true (eqb (get_or s a 0) v))

-- a value of l bytes, with zeros behind it to n
pub same-padded : (s : List ℕ) (a l n : ℕ) → l ≤ n → a + n ≤ length s → same (win s a n) (win s a l ++ zeros (n - l)) ≡ all_zero (win s (a + l) (n - l))
same-padded s a l n k h =
    let q : l + (n - l) ≡ n = omega arith in
    let w = same_skip s a l (n - l) (win s a l) (zeros (n - l)) (length-win s a l (omega arith)) (omega arith) refl in
    rw q at w ∙ same-zeros (win s (a + l) (n - l)) (n - l) (length-win s (a + l) (n - l) (omega arith))

-- ---- a turn of a loop that compares

eqb_xor : (a b : ℕ) → eqb (bit_xor a b) 0 ≡ eqb a b
eqb_xor a b = go (eqb a b) refl
  where
    go : (t : Bool) → eqb a b ≡ t → eqb (bit_xor a b) 0 ≡ t
    go true e = rw (eqb-true a b e, xor_self)
    go false e = ne_eqb (bit_xor a b) 0 (λ z. eqb-false a b e (omega (arith, xor_add_and a b, and_le_l a b, and_le_r a b)))

pub same_turn : (a b : List ℕ) (i m : ℕ) → i < length a → length a ≡ length b → eqb m 0 ≡ same (take i a) (take i b)
    → eqb (bit_or m (bit_xor (get_or a i 0) (get_or b i 0))) 0 ≡ same (take (i + 1) a) (take (i + 1) b)
unfolding same
same_turn a b i m h l e =
    rw (
      eqb_or,
      eqb_xor,
      e,
      add-one,
      take-suc a i 0 h,
      take-suc b i 0 (omega arith),
      same-append (take i a) (get_or a i 0 ∷ []) (take i b) (get_or b i 0 ∷ []) i (length-take-le i a (omega arith)) (length-take-le i b (omega arith)),
      and-true,
    )
