-- A count is written from its lowest digit at the last place down to the first: what is still to be written is always the digits that are
-- left, at the front, and where none is left the buffer is as it is to be. How many there are is told by the powers of ten around it.
use Rattle.std.proofs.Common.{◌≡◌, ℕ, zero, suc, ◌+◌, ◌-◌, ◌*◌, ◌/◌, ◌%◌, ◌^◌, ◌<◌, ◌≤◌, List, [], ◌∷◌, ◌++◌, length, take, drop, set, refl, sym, ap, ◌∙◌, append_assoc, zero-add, arith, length-append, length-take-le, drop_at, le-leb}
use lib.Seq.{set_split}
use borrow.Author.Tests.{lt-leb}
use Rattle.lent.specs.Bytes.{splice}
use Rattle.counts.specs.Count.{digits_max, decimal, decimal_length, written}
use Rattle.counts.proofs.Decimal.{width, width_one, width-more, low_digits, length_low, decimal-width, decimal_low}

-- a number from 10 ^ k up to the next power of ten has k + 1 digits
width_exact : (f k n : ℕ) → k < f → 10 ^ k ≤ n → n < 10 * 10 ^ k → width f n ≡ suc k
width_exact zero k n l h m = absurd (omega arith)
width_exact (suc f) zero n l h m = width_one f n (omega arith)
width_exact (suc f) (suc k) n l h m = width-more f n (omega arith) ∙ ap suc (width_exact f k (n / 10) (omega arith) (omega arith) (omega arith))

pub digits_exact : (n k : ℕ) → k < digits_max → 10 ^ k ≤ n → n < 10 * 10 ^ k → decimal_length n ≡ k + 1
digits_exact n k l h m = decimal-width n ∙ rw (width_exact digits_max k n l h m) (omega arith)

pub zero-digit : decimal_length 0 ≡ 1
unfolding decimal_length
zero-digit = refl

-- the last byte of what is written may be stored before the others
splice-last : (s y : List ℕ) (d k : ℕ) → length y ≡ k → k < length s → splice s 0 (y ++ (d ∷ [])) ≡ splice (set s k d) 0 y
unfolding splice
splice-last s y d k e h =
    let q : drop k (set s k d) ≡ d ∷ drop (suc k) s = rw (set_split s k d h) (drop_at (take k s) _ k (length-take-le k s (omega arith))) in
    let l : length (y ++ (d ∷ [])) ≡ suc k = length-append y (d ∷ []) ∙ omega arith in
    simp (zero-add, l, e, q, append_assoc)

module _ (n : ℕ) (s : List ℕ) where
  pub written-fits : decimal_length n ≤ length s → written n s ≡ record { bytes = splice s 0 (decimal n); number = decimal_length n }
  unfolding written
  written-fits h = rw (le-leb (decimal_length n) (length s) h)

  pub written_short : length s < decimal_length n → written n s ≡ record { bytes = s; number = 0 }
  unfolding written
  written_short h = rw (lt-leb (decimal_length n) (length s) h)

  pub put_start : (w : ℕ) → w ≡ decimal_length n → w ≤ length s → (written n s).bytes ≡ splice s 0 (low_digits w n)
  put_start w e h = let f = written-fits (omega arith) in rw f (ap (splice s 0) (decimal_low n ∙ rw e))

pub put_turn : (t s : List ℕ) (left i : ℕ) → 0 < i → i ≤ length s → t ≡ splice s 0 (low_digits i left) → t ≡ splice (set s (i - 1) (48 + left % 10)) 0 (low_digits (i - 1) (left / 10))
unfolding low_digits
put_turn t s left zero p h e = absurd (omega arith)
put_turn t s left (suc i) p h e =
    let o : suc i - 1 ≡ i = omega arith in
    rw o (e ∙ splice-last s (low_digits i (left / 10)) (48 + left % 10) i (length_low i (left / 10)) h)

pub put_end : (t s : List ℕ) (left i : ℕ) → i ≤ 0 → t ≡ splice s 0 (low_digits i left) → s ≡ t
unfolding splice low_digits
put_end t s left zero h e = sym e
put_end t s left (suc i) h e = absurd (omega arith)
