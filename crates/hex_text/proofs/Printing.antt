-- A value is printed byte by byte, two digits behind those of the bytes before; and what is printed of a value reads back as that value, since each digit says what it was made from.
use mathlib.Core.Path.{◌≡◌, refl, ap, ◌∙◌}
use mathlib.Core.Logic.{⊎_elim}
use mathlib.Core.Bool.{true}
use mathlib.Core.List.{List, [], ◌∷◌, ◌++◌}
use mathlib.Core.Option.{some}
use Prim.Native.Nat.{ℕ, suc, ◌+◌, ◌-◌, ◌*◌, ◌/◌, ◌%◌, ◌≤◌, ◌<◌}
use native.Mathlib.Nat.{zero-add}
use native.Mathlib.Numerals.{add-one}
use native.Mathlib.Omega.{arith}
use lib.Dec.{ltb}
use lib.ListN.{length, get_or, take, set, length-take}
use lib.Seq.{take-suc, take-length}
use borrow.Author.Tests.{lt-ltb, le-ltb, ltb-true, ltb-false}
use Rattle.lent.specs.Bytes.{Bytes, splice}
use Rattle.lent.proofs.Choices.{case_of}
use Rattle.lent.proofs.Splice.{splice-next}
use Rattle.lent.proofs.Stores.{stores2}
use Rattle.hex_text.specs.Hex.{dash, digit_of, digit_value, digits_of, hex_of, all_digits, is_hex, bytes_of, read_hex}
use Rattle.hex_text.proofs.Reading.{digit-number, digit-letter, hex_even, read_dash, read_pairs}

-- ---- digits

module _ (n : ℕ) where
  pub digit_few : n < 10 → digit_of n ≡ 48 + n
  digit_few h = rw (lt-ltb n 10 h)

  pub digit_many : 10 ≤ n → digit_of n ≡ 97 + (n - 10)
  digit_many h = rw (le-ltb n 10 h)

  -- a digit says what it was made from
  digit_back : n < 16 → digit_value (digit_of n) ≡ n
  digit_back h =
      ⊎_elim (λ t. let l : n < 10 = ltb-true n 10 t in rw (digit_few l, digit-number (48 + n) (omega arith) (omega arith)) (omega arith))
      (λ t. let l : 10 ≤ n = ltb-false n 10 t in rw (digit_many l, digit-letter (97 + (n - 10)) (omega arith) (omega arith)) (omega arith))
      (case_of (ltb n 10))

digits_append : (v w : List ℕ) → digits_of (v ++ w) ≡ digits_of v ++ digits_of w
digits_append [] w = refl
digits_append (b ∷ v) w = rw (digits_append v w)

length_digits : (v : List ℕ) → length (digits_of v) ≡ 2 * length v
length_digits [] = refl
length_digits (b ∷ v) = omega (arith, length_digits v)

-- a turn of a loop that prints
pub print_turn : (v s₀ s : List ℕ) (i : ℕ) → i < length v → 2 * length v ≤ length s₀ → length s ≡ length s₀ → s ≡ splice s₀ 0 (digits_of (take i v))
    → set (set s (2 * i) (digit_of (get_or v i 0 / 16))) (2 * i + 1) (digit_of (get_or v i 0 % 16)) ≡ splice s₀ 0 (digits_of (take (i + 1) v))
print_turn v s₀ s i h l k e =
    let x : List ℕ = digits_of (take i v) in
    let n : length x ≡ 2 * i = length_digits (take i v) ∙ simp length-take (omega arith) in
    let y : List ℕ = digit_of (get_or v i 0 / 16) ∷ digit_of (get_or v i 0 % 16) ∷ [] in
    let t : take (i + 1) v ≡ take i v ++ (get_or v i 0 ∷ []) = rw (add-one, take-suc v i 0 h) in
    let d : digits_of (take (i + 1) v) ≡ x ++ y = ap digits_of t ∙ digits_append (take i v) (get_or v i 0 ∷ []) in
    stores2 s (2 * i) (digit_of (get_or v i 0 / 16)) (digit_of (get_or v i 0 % 16)) (omega arith)
    ∙ rw (e, d) (rw zero-add at (splice-next s₀ x y 0 (2 * i) n (omega arith)))

pub print_end : (v s₀ s : List ℕ) (i : ℕ) → i ≡ length v → s ≡ splice s₀ 0 (digits_of (take i v)) → s ≡ splice s₀ 0 (digits_of v)
print_end v s₀ s i h e = e ∙ rw (h, take-length v)

-- ---- a value

pub hex_none : (v : List ℕ) → length v ≡ 0 → hex_of v ≡ dash ∷ []
unfolding hex_of
hex_none [] e = refl
hex_none (b ∷ v) e = absurd (omega arith)

pub hex_some : (v : List ℕ) → (length v ≡ 0 → ⊥) → hex_of v ≡ digits_of v
unfolding hex_of
hex_some [] e = absurd (e refl)
hex_some (b ∷ v) e = refl

pub length_some : (v : List ℕ) → (length v ≡ 0 → ⊥) → length (hex_of v) ≡ 2 * length v
length_some v e = ap length (hex_some v e) ∙ length_digits v

-- two digits for each byte, or the dash
pub hex_most : (v : List ℕ) (m : ℕ) → 1 ≤ m → length v ≤ m → length (hex_of v) ≤ 2 * m
unfolding hex_of
hex_most [] m p h = omega arith
hex_most (b ∷ v) m p h = omega (arith, length_digits v)

-- ---- the round trip

digits-all : (v : List ℕ) → Bytes v → all_digits (digits_of v) ≡ true
digits-all [] f = refl
digits-all (b ∷ v) f =
    let h : b < 256 = f 0 in
    rw (digit_back (b / 16) (omega arith), digit_back (b % 16) (omega arith), lt-ltb (b / 16) 16 (omega arith), lt-ltb (b % 16) 16 (omega arith)) (digits-all v (λ i. f (suc i)))

bytes_digits : (v : List ℕ) → Bytes v → bytes_of (digits_of v) ≡ v
bytes_digits [] f = refl
bytes_digits (b ∷ v) f =
    let h : b < 256 = f 0 in
    let e : b / 16 * 16 + b % 16 ≡ b = omega arith in
    rw (digit_back (b / 16) (omega arith), digit_back (b % 16) (omega arith), e, bytes_digits v (λ i. f (suc i)))

-- what is printed of a value reads back as that value
pub read_hex_lem : (v : List ℕ) → Bytes v → read_hex (hex_of v) ≡ some v
unfolding hex_of
read_hex_lem [] f = read_dash (dash ∷ []) refl
read_hex_lem (b ∷ v) f =
    let t : List ℕ = digits_of (b ∷ v) in
    let l : length t % 2 ≡ 0 = omega (arith, length_digits (b ∷ v)) in
    let p : is_hex t ≡ true = hex_even t (omega arith) l ∙ digits-all (b ∷ v) f in
    read_pairs t refl p ∙ ap some (bytes_digits (b ∷ v) f)
