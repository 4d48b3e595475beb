-- A count is read digit by digit. A numeral never falls when a digit is put behind it, so that a numeral past the largest count stays past it,
-- and the reader may stop there.
use Rattle.std.specs.Prelude.{if◌then◌else◌, Option, Some, None}
use Rattle.std.proofs.Common.{◌≡◌, ℕ, suc, ◌+◌, ◌-◌, ◌*◌, ◌<◌, ◌≤◌, Bool, true, false, ◌&&◌, leb, List, [], ◌∷◌, length, get_or, drop, refl, ◌∙◌, le_refl, add-one, arith, drop_of_length-le, drop-cons, le-leb, leb-false}
use mathlib.Core.Bool.{and-false}
use borrow.Author.Tests.{lt-leb}
use Rattle.counts.specs.Count.{count_max, digits_max, digit, all_digits, numeral, extended, read_count}

numeral_grows : (a : ℕ) (v : List ℕ) → a ≤ numeral a v
numeral_grows a [] = le_refl a
numeral_grows a (b ∷ v) = omega (arith, numeral_grows (a * 10 + (b - 48)) v)

-- a digit more: the tests of `extended`, one by one
module _ (a b : ℕ) where
  pub extended_low : b < 48 → extended a b ≡ None
  unfolding extended
  extended_low h = rw (lt-leb 48 b h)

  pub extended_high : 48 ≤ b → 57 < b → extended a b ≡ None
  unfolding extended
  extended_high h l = rw (le-leb 48 b h, lt-leb b 57 l)

  pub extended_past : 48 ≤ b → b ≤ 57 → count_max < a * 10 + (b - 48) → extended a b ≡ None
  unfolding extended
  extended_past h l m = rw (le-leb 48 b h, le-leb b 57 l, lt-leb (a * 10 + (b - 48)) count_max m)

  pub extended_is : 48 ≤ b → b ≤ 57 → a * 10 + (b - 48) ≤ count_max → extended a b ≡ Some (a * 10 + (b - 48))
  unfolding extended
  extended_is h l m = rw (le-leb 48 b h, le-leb b 57 l, le-leb (a * 10 + (b - 48)) count_max m)

-- what v says behind digits that said a
unfoldable pub read_behind : ℕ → List ℕ → Option ℕ
read_behind a v = if all_digits v && leb (numeral a v) count_max then Some (numeral a v) else None

-- what v says behind a count, if there is one
abbrev pub read_on : Option ℕ → List ℕ → Option ℕ
read_on (Some a) v = read_behind a v
read_on None v = None

past : (a : ℕ) (v : List ℕ) → count_max < a → read_behind a v ≡ None
unfolding read_behind
past a v h =
    let g : leb (numeral a v) count_max ≡ false = lt-leb (numeral a v) count_max (omega (arith, numeral_grows a v)) in
    rw (g, and-false)

by_tests : (t u : Bool) (n : ℕ) (v : List ℕ) → leb n count_max ≡ u
    → (if t && all_digits v && leb (numeral n v) count_max then Some (numeral n v) else None) ≡ read_on (if t && u then Some n else None) v
unfolding read_behind
by_tests false u n v e = refl
by_tests true true n v e = refl
by_tests true false n v e = past n v (leb-false n count_max e)

read_digit : (a b : ℕ) (v : List ℕ) → read_behind a (b ∷ v) ≡ read_on (extended a b) v
unfolding read_behind extended
read_digit a b v = by_tests (digit b) (leb (a * 10 + (b - 48)) count_max) (a * 10 + (b - 48)) v refl

module _ (v : List ℕ) where
  pub read_empty : length v < 1 → read_count v ≡ None
  unfolding read_count
  read_empty h = rw (lt-leb 1 (length v) h)

  pub read_long : digits_max < length v → read_count v ≡ None
  unfolding read_count
  read_long h = rw (le-leb 1 (length v) (omega arith), lt-leb (length v) digits_max h)

  pub read_start : 1 ≤ length v → length v ≤ digits_max → read_count v ≡ read_behind 0 v
  unfolding read_count read_behind
  read_start h l = rw (le-leb 1 (length v) h, le-leb (length v) digits_max l)

  -- a turn of the reader
  pub read_turn : (a i : ℕ) → i < length v → read_count v ≡ read_behind a (drop i v) → read_count v ≡ read_on (extended a (get_or v i 0)) (drop (i + 1) v)
  read_turn a i h e = e ∙ rw (add-one, drop-cons v i 0) (read_digit a (get_or v i 0) (drop (suc i) v))

  pub read_end : (a i : ℕ) → length v ≤ i → a ≤ count_max → read_count v ≡ read_behind a (drop i v) → read_count v ≡ Some a
  unfolding read_behind
  read_end a i h l e = e ∙ rw (drop_of_length-le v h, le-leb a count_max l)
