-- Bytes that are all 0: a loop that joins them by `|` ends with 0 exactly then, since `a | b` is 0 only if both are.
use Rattle.std.specs.List.{fold, FoldsTo}
use mathlib.Core.Path.{◌≡◌, refl, sym, ◌∙◌}
use mathlib.Core.Bool.{◌&&◌, and-true, and_assoc}
use mathlib.Core.List.{List, [], ◌∷◌, ◌++◌}
use Prim.Native.Nat.{ℕ, zero, suc, ◌+◌, ◌<◌}
use native.Mathlib.Omega.{arith}
use lib.Dec.{eqb, eqb-suc-zero}
use lib.Bits.{bit_or, or_zero_l, or_add_and, and_le_r}
use lib.ListN.{get_or, length}
use borrow.Author.Tests.{ne_eqb}
use Rattle.lent.specs.Bytes.{win, zeros}
use Rattle.lent.specs.Tables.{all_zero}
use Rattle.lent.proofs.Splice.{win-more}

pub zero-append : (p q : List ℕ) → all_zero (p ++ q) ≡ all_zero p && all_zero q
unfolding all_zero
zero-append [] q = refl
zero-append (x ∷ p) q = rw (zero-append p q) (sym (and_assoc (eqb x 0) (all_zero p) (all_zero q)))

-- ---- a loop that joins the bytes by `|`

-- a test of two bytes at once
pub eqb_or : (a b : ℕ) → eqb (bit_or a b) 0 ≡ eqb a 0 && eqb b 0
eqb_or zero b = rw (or_zero_l b)
eqb_or (suc a) b = ne_eqb (bit_or (suc a) b) 0 (λ e. omega (arith, or_add_and (suc a) b, and_le_r (suc a) b)) ∙ rw (eqb-suc-zero a)

pub or_turn : (s : List ℕ) (a i m : ℕ) → a + i < length s → eqb m 0 ≡ all_zero (win s a i) → eqb (bit_or m (get_or s (a + i) 0)) 0 ≡ all_zero (win s a (i + 1))
unfolding all_zero
or_turn s a i m h e = eqb_or m (get_or s (a + i) 0) ∙ rw (win-more s a i h, zero-append, e, and-true)

-- all of them joined
pub fold_or : (m : ℕ) (l : List ℕ) → eqb (fold bit_or m l) 0 ≡ eqb m 0 && all_zero l
unfolding all_zero
fold_or m [] = sym (and-true (eqb m 0))
fold_or m (x ∷ l) = fold_or (bit_or m x) l ∙ rw eqb_or (and_assoc (eqb m 0) (eqb x 0) (all_zero l))

-- ---- what a call that gives 0 each time writes

pub folded-zeros : {P : Type 0} (R : P → ℕ → P → Type 0) → ((f : P) (x : ℕ) (g : P) → R f x g → x ≡ 0) → (l : List ℕ) (p q : P) → FoldsTo R p l q → l ≡ zeros (length l)
folded-zeros R z [] p q h = refl
folded-zeros R z (x ∷ l) p q h = rw (z p x h.0 h.1, ← folded-zeros R z l h.0 q h.2)
