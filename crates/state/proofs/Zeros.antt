-- Stretches that are all 0. Of the 64 bytes for a value those behind it are: the mask of a byte of the value is 0, which adds nothing, and from
-- there on it is ones, which adds the byte. A stretch is cut in two: the halves of a session record, the first byte and the rest.
use Prim.Native.Nat.{ℕ, suc, ◌+◌, ◌-◌, ◌%◌, ◌≤◌, ◌<◌}
use mathlib.Core.Path.{◌≡◌, refl, sym, ap, ◌∙◌}
use mathlib.Core.Bool.{Bool, true, false, ◌&&◌}
use mathlib.Core.List.{List}
use native.Mathlib.Omega.{arith}
use lib.Bits.{bit_and, bit_or, and_zero_r, or_zero_r, and_mask}
use lib.Dec.{eqb, ltb}
use lib.ListN.{get_or, length}
use borrow.Author.Tests.{ltb-true, ltb-false}
use Rattle.lent.specs.Bytes.{le64, win}
use Rattle.lent.specs.Tables.{all_zero}
use Rattle.lent.proofs.Numbers.{width64, zero-le}
use Rattle.lent.proofs.Splice.{win-add, win-cons, win-whole}
use Rattle.lent.proofs.Zeros.{zero-append, or_turn}
use Rattle.machine.specs.Sizes.{session_width}

-- a turn of a loop over the bytes at `at`, of which a mask w keeps those from n on
pub mask_turn : (s : List ℕ) (at n i m w : ℕ) → at + i < length s → get_or s (at + i) 0 < 256 → (i < n → w ≡ 0) → (n ≤ i → w ≡ 255)
    → eqb m 0 ≡ all_zero (win s (at + n) (i - n)) → eqb (bit_or m (bit_and (get_or s (at + i) 0) w)) 0 ≡ all_zero (win s (at + n) (i + 1 - n))
mask_turn s at n i m w l byte low high e = go (ltb i n) refl
  where
    go : (t : Bool) → ltb i n ≡ t → eqb (bit_or m (bit_and (get_or s (at + i) 0) w)) 0 ≡ all_zero (win s (at + n) (i + 1 - n))
    go true q =
        let h : i < n = ltb-true i n q in
        let none : bit_and (get_or s (at + i) 0) w ≡ 0 = ap (bit_and (get_or s (at + i) 0)) (low h) ∙ and_zero_r (get_or s (at + i) 0) in
        let still : i - n ≡ i + 1 - n = omega arith in
        ap (λ (x : ℕ). eqb (bit_or m x) 0) none ∙ (ap (λ (x : ℕ). eqb x 0) (or_zero_r m) ∙ (e ∙ ap (λ (x : ℕ). all_zero (win s (at + n) x)) still))
    go false q =
        let h : n ≤ i = ltb-false i n q in
        let at-is : at + i ≡ at + n + (i - n) = omega arith in
        let small : get_or s (at + i) 0 % 256 ≡ get_or s (at + i) 0 = omega (arith, byte) in
        let kept : bit_and (get_or s (at + i) 0) w ≡ get_or s (at + n + (i - n)) 0 = ap (bit_and (get_or s (at + i) 0)) (high h) ∙ (and_mask (get_or s (at + i) 0) 8 ∙ (small ∙ ap (λ (x : ℕ). get_or s x 0) at-is)) in
        let more : i - n + 1 ≡ i + 1 - n = omega arith in
        ap (λ (x : ℕ). eqb (bit_or m x) 0) kept ∙ (or_turn s (at + n) (i - n) m (omega arith) e ∙ ap (λ (x : ℕ). all_zero (win s (at + n) x)) more)

-- the 16 bytes of a session
pub session_zeros : (x : List ℕ) → length x ≡ session_width → all_zero x ≡ eqb (le64 x 0) 0 && eqb (le64 x 8) 0
session_zeros x h =
    ap all_zero (sym (win-whole x session_width h) ∙ win-add x 0 8 8)
    ∙ rw (zero-append (win x 0 8) (win x 8 8), zero-le width64 x 0 (omega arith), zero-le width64 x 8 (omega arith))

-- the first of some bytes, and the rest
pub zero-first : (s : List ℕ) (a n : ℕ) → a < length s → all_zero (win s a (suc n)) ≡ eqb (get_or s a 0) 0 && all_zero (win s (a + 1) n)
unfolding all_zero
zero-first s a n h = rw (win-cons s a n h)
