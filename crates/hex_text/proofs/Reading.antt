-- A text of hex is checked digit by digit and then read pair by pair: what is still to be written is always what the pairs that are left say, behind the bytes that are written.
use Rattle.std.specs.Prelude.{IsTrue, EachIndex, slice_index, ◌↔◌, SomeIff, Some, None, is_some, unwrap_or, Option as ProgramOption}
use Rattle.std.specs.List.{fold}
use Rattle.std.specs.Simd.{first_chunks}
use Rattle.std.proofs.lemmas.List.{get_or-take, get_or-drop}
use mathlib.Core.Path.{◌≡◌, refl, sym, ap, ◌∙◌}
use mathlib.Core.Bool.{Bool, true, false, ◌&&◌, and-true, and_assoc}
use mathlib.Core.List.{List, [], ◌∷◌}
use mathlib.Core.Option.{none, some}
use Prim.Native.Nat.{ℕ, zero, suc, ◌+◌, ◌-◌, ◌*◌, ◌/◌, ◌%◌, ◌≤◌, ◌<◌}
use native.Mathlib.Numerals.{add-one}
use native.Mathlib.Omega.{arith}
use lib.Dec.{eqb, ltb}
use lib.ListN.{length, get_or, drop, set, length-drop}
use lib.Seq.{drop-cons}
use borrow.Author.Tests.{le-leb, lt-leb, lt-ltb, ltb-true, eq-eqb}
use Rattle.lent.specs.Bytes.{splice}
use Rattle.lent.proofs.Choices.{and_yes}
use Rattle.lent.proofs.Splice.{set-splice, splice-next, splice-none}
use Rattle.hex_text.specs.Hex.{digit_value, all_digits, is_dash, is_hex, bytes_of, read_hex}

-- ---- a digit of either range

module _ (b : ℕ) where
  pub digit-number : 48 ≤ b → b ≤ 57 → digit_value b ≡ b - 48
  unfolding digit_value
  digit-number h l = rw (le-leb 48 b h, le-leb b 57 l)

  pub digit-letter : 97 ≤ b → b ≤ 102 → digit_value b ≡ 10 + (b - 97)
  unfolding digit_value
  digit-letter h l = rw (le-leb 48 b (omega arith), lt-leb b 57 (omega arith), le-leb 97 b h, le-leb b 102 l)

-- ---- all digits

digits_each : (t : List ℕ) → ((k : ℕ) → k < length t → digit_value (get_or t k 0) < 16) → all_digits t ≡ true
digits_each [] f = refl
digits_each (b ∷ t) f = rw (lt-ltb (digit_value b) 16 (f 0 (omega arith))) (digits_each t (λ k h. f (suc k) (omega arith)))

digit_at : (t : List ℕ) (i : ℕ) → all_digits t ≡ true → i < length t → digit_value (get_or t i 0) < 16
digit_at [] i p h = absurd (omega arith)
digit_at (b ∷ t) zero p h = ltb-true (digit_value b) 16 (and_yes (ltb (digit_value b) 16) (all_digits t) p).0
digit_at (b ∷ t) (suc i) p h = digit_at t i (and_yes (ltb (digit_value b) 16) (all_digits t) p).1 (omega arith)

-- a test of each byte tells whether all are digits
pub digits_test : (t : List ℕ) (r : Bool) → (IsTrue r ↔ EachIndex t (λ k. digit_value (slice_index t k) < 16)) → r ≡ all_digits t
digits_test t true f = sym (digits_each t (λ k h. f.0 refl k h))
digits_test t false f = by (all_digits t) refl
  where
    by : (u : Bool) → all_digits t ≡ u → false ≡ u
    by false e = refl
    by true e = f.1 (λ k h. digit_at t k e h)

-- whether a number is told, and the test of one byte after the other, joined
pub some_told : (o : ProgramOption ℕ) (b : ℕ) → SomeIff o (digit_value b < 16) (digit_value b) → is_some o ≡ ltb (digit_value b) 16
some_told None b f = by (ltb (digit_value b) 16) refl
  where
    by : (u : Bool) → ltb (digit_value b) 16 ≡ u → false ≡ u
    by false e = refl
    by true e = absurd (f (ltb-true (digit_value b) 16 e))
some_told (Some x) b f = sym (lt-ltb (digit_value b) 16 f.0)

pub digits_folded : (t : List ℕ) (m : Bool) → fold (λ (a : Bool) (b : ℕ). a && ltb (digit_value b) 16) m t ≡ m && all_digits t
digits_folded [] m = sym (and-true m)
digits_folded (b ∷ t) m = digits_folded t (m && ltb (digit_value b) 16) ∙ and_assoc m (ltb (digit_value b) 16) (all_digits t)

-- ---- a text of hex

module _ (t : List ℕ) where
  pub hex_even : 1 ≤ length t → length t % 2 ≡ 0 → is_hex t ≡ all_digits t
  hex_even h e = rw (lt-ltb 0 (length t) h, eq-eqb (length t % 2) 0 e)

  pub hex_digits : is_hex t ≡ true → all_digits t ≡ true
  hex_digits e = (and_yes (ltb 0 (length t) && eqb (length t % 2) 0) (all_digits t) e).1

-- ---- pairs

-- a byte of the pair at i
pub pair_at : (t : List ℕ) (k i j : ℕ) → i < k → j < 2 → get_or (get_or (first_chunks 2 k t) i []) j 0 ≡ get_or t (2 * i + j) 0
pair_at t zero i j h l = absurd (omega arith)
pair_at t (suc k) zero j h l = get_or-take 2 t j 0 l ∙ ap (λ (n : ℕ). get_or t n 0) (omega arith)
pair_at t (suc k) (suc i) j h l =
    let e : 2 + (2 * i + j) ≡ 2 * suc i + j = omega arith in
    pair_at (drop 2 t) k i j (omega arith) l ∙ get_or-drop 2 t (2 * i + j) 0 ∙ ap (λ (n : ℕ). get_or t n 0) e

module _ (t : List ℕ) (p : List (List ℕ)) (i : ℕ) (e : p ≡ first_chunks 2 (length t / 2) t) (h : i < length t / 2) where
  pub pair_high : get_or (get_or p i []) 0 0 ≡ get_or t (2 * i) 0
  pair_high = rw e (pair_at t (length t / 2) i 0 h (omega arith) ∙ ap (λ (n : ℕ). get_or t n 0) (omega arith))

  pub pair_low : get_or (get_or p i []) 1 0 ≡ get_or t (2 * i + 1) 0
  pair_low = rw e (pair_at t (length t / 2) i 1 h (omega arith))

  module _ (d : is_hex t ≡ true) where
    pub high_digit : digit_value (get_or (get_or p i []) 0 0) < 16
    high_digit = rw pair_high (digit_at t (2 * i) (hex_digits t d) (omega arith))

    pub low_digit : digit_value (get_or (get_or p i []) 1 0) < 16
    low_digit = rw pair_low (digit_at t (2 * i + 1) (hex_digits t d) (omega arith))

-- what is told exactly where a fact holds is there where it does
pub some_where : (o : ProgramOption ℕ) (b : ℕ) → SomeIff o (digit_value b < 16) (digit_value b) → digit_value b < 16 → o ≡ Some (digit_value b)
some_where None b f h = absurd (f h)
some_where (Some x) b f h = ap (λ (n : ℕ). Some n) f.1

pub some_said : (o : ProgramOption ℕ) (b x : ℕ) → SomeIff o (digit_value b < 16) (digit_value b) → o ≡ Some x → x ≡ digit_value b
some_said None b x f e = cc
some_said (Some y) b x f e = let g : y ≡ digit_value b = f.1 in cc

-- a digit's number, 0 in place of none
pub some_or : (o : ProgramOption ℕ) (b x : ℕ) → SomeIff o (digit_value b < 16) (digit_value b) → digit_value b < 16 → x ≡ unwrap_or o 0 → x ≡ digit_value b
some_or o b x f h e = e ∙ ap (λ (r : ProgramOption ℕ). unwrap_or r 0) (some_where o b f h)

-- ---- the bytes

pub length_bytes : (t : List ℕ) → length (bytes_of t) ≡ length t / 2
length_bytes [] = refl
length_bytes (h ∷ []) = refl
length_bytes (h ∷ l ∷ t) = omega (arith, length_bytes t)

pair : (t : List ℕ) (i : ℕ) → 2 * i + 1 < length t → drop (2 * i) t ≡ get_or t (2 * i) 0 ∷ get_or t (2 * i + 1) 0 ∷ drop (2 * (i + 1)) t
pair t i h =
    let e : 2 * (i + 1) ≡ suc (2 * i + 1) = omega arith in
    drop-cons t (2 * i) 0 (omega arith) ∙ rw (e, ← drop-cons t (2 * i + 1) 0 h, add-one)

pub fill_turn : (t r s : List ℕ) (i : ℕ) → 2 * i + 1 < length t → length t / 2 ≤ length s → r ≡ splice s i (bytes_of (drop (2 * i) t))
    → r ≡ splice (set s i (digit_value (get_or t (2 * i) 0) * 16 + digit_value (get_or t (2 * i + 1) 0))) (i + 1) (bytes_of (drop (2 * (i + 1)) t))
fill_turn t r s i h l e =
    let b : ℕ = digit_value (get_or t (2 * i) 0) * 16 + digit_value (get_or t (2 * i + 1) 0) in
    let x : List ℕ = bytes_of (drop (2 * (i + 1)) t) in
    let n : length x ≡ length (drop (2 * (i + 1)) t) / 2 = length_bytes (drop (2 * (i + 1)) t) in
    let p : i + 1 + length x ≤ length s = omega (arith, length-drop (2 * (i + 1)) t) in
    e ∙ ap (λ (y : List ℕ). splice s i (bytes_of y)) (pair t i h)
    ∙ rw (set-splice s i b (omega arith)) (sym (splice-next s (b ∷ []) x i 1 refl p))

none_left : (x : List ℕ) → length x ≡ 0 → x ≡ []
none_left [] e = refl
none_left (b ∷ x) e = absurd (omega arith)

pub fill_end : (t r s : List ℕ) (i : ℕ) → length t / 2 ≤ i → r ≡ splice s i (bytes_of (drop (2 * i) t)) → s ≡ r
fill_end t r s i h e =
    let l : length (bytes_of (drop (2 * i) t)) ≡ 0 = omega (arith, length_bytes (drop (2 * i) t), length-drop (2 * i) t) in
    sym (e ∙ rw (none_left (bytes_of (drop (2 * i) t)) l, splice-none))

-- ---- what is read, test by test

module _ (t : List ℕ) where
  pub read_dash : is_dash t ≡ true → read_hex t ≡ some []
  unfolding read_hex
  read_dash e = rw e

  pub read_pairs : is_dash t ≡ false → is_hex t ≡ true → read_hex t ≡ some (bytes_of t)
  unfolding read_hex
  read_pairs e f = rw (e, f)

  pub read_none : is_dash t ≡ false → is_hex t ≡ false → read_hex t ≡ none
  unfolding read_hex
  read_none e f = rw (e, f)
