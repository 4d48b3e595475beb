-- What callers of the counts cite: a count that is written is read back, since its digits pass each test of a count, and a buffer of 20 bytes
-- takes any count.
use Rattle.std.proofs.Common.{◌≡◌, ℕ, ◌≤◌, true, List, length, take, arith, le-leb}
use lib.Seq.{take-append_seam}
use Rattle.lent.specs.Bytes.{splice}
use Rattle.counts.specs.Count.{count_max, digits_max, all_digits, numeral, read_count, decimal, decimal_length, written}
use Rattle.std.specs.Prelude.{Some}
use Rattle.counts.proofs.Decimal.{decimal_least, decimal_most, decimal-digits, decimal-numeral}
use Rattle.counts.proofs.Writing.{written-fits}

digits_read : (v : List ℕ) (n : ℕ) → 1 ≤ length v → length v ≤ digits_max → all_digits v ≡ true → numeral 0 v ≡ n → n ≤ count_max → read_count v ≡ Some n
unfolding read_count
digits_read v n p q d e h = rw (le-leb 1 (length v) p, le-leb (length v) digits_max q, d, e, le-leb n count_max h)

-- the round trip
pub read_decimal : (n : ℕ) → n ≤ count_max → read_count (decimal n) ≡ Some n
read_decimal n h = digits_read (decimal n) n (decimal_least n) (decimal_most n) (decimal-digits n) (decimal-numeral n h) h

module _ (n : ℕ) (s : List ℕ) where
  -- a buffer of 20 bytes takes any count, and its front is then the count's digits
  pub written_room : digits_max ≤ length s → written n s ≡ record { bytes = splice s 0 (decimal n); number = length (decimal n) }
  unfolding decimal_length
  written_room h = written-fits n s (omega (arith, decimal_most n))

  pub written_front : digits_max ≤ length s → take (written n s).number (written n s).bytes ≡ decimal n
  unfolding splice
  written_front h = rw (written_room h) (take-append_seam (decimal n) _)
