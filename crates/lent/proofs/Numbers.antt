-- Numbers in bytes: the bytes of a number say it, and bytes are those of the number that they say. Both hold for any number of bytes by
-- induction, with `digits`, `number` and `said`; the widths of `specs/` are two, four and eight digits.
use Rattle.std.specs.Int.{from_le_bytes, to_le_bytes}
use Rattle.std.proofs.Common.{w16, w32, w64}
use mathlib.Core.Path.{◌≡◌, refl, sym, ap, ap₂, ◌∙◌}
use mathlib.Core.Bool.{◌&&◌}
use mathlib.Core.List.{List, [], ◌∷◌, ◌++◌}
use Prim.Native.Nat.{ℕ, zero, suc, ◌+◌, ◌*◌, ◌/◌, ◌%◌, ◌^◌, ◌≤◌, ◌<◌}
use native.Mathlib.Nat.{add_assoc, add-zero, div-add-mod', div-div-eq-div-mul, div-lt_iff_lt-mul, div-one, mod-lt, mul_comm, pow-suc, suc-add, zero-add}
use native.Mathlib.Omega.{arith}
use lib.Arith.{digits_div, digits_mod, mod-mul}
use lib.Dec.{eqb, eqb-suc-zero}
use lib.ListN.{length, get_or}
use borrow.Author.Tests.{ne_eqb}
use Rattle.lent.specs.Bytes.{Bytes, le16, bytes16, le32, bytes32, le64, bytes64, win}
use Rattle.lent.specs.Tables.{all_zero}
use Rattle.lent.proofs.Splice.{bytes_win, get_or-win, length-win, win-whole, win-cons, win-none}

-- the n low bytes of v, the number that bytes say, and the one that the n bytes at a place say
abbrev digits : ℕ → ℕ → List ℕ
digits zero v = []
digits (suc n) v = v % 256 ∷ digits n (v / 256)

abbrev number : List ℕ → ℕ
number [] = 0
number (b ∷ l) = b + number l * 256

abbrev said : ℕ → List ℕ → ℕ → ℕ
said zero s a = 0
said (suc n) s a = get_or s a 0 + said n s (a + 1) * 256

length_digits : (n v : ℕ) → length (digits n v) ≡ n
length_digits zero v = refl
length_digits (suc n) v = ap suc (length_digits n (v / 256))

pow_pos : (n : ℕ) → 0 < 256 ^ n
pow_pos zero = omega arith
pow_pos (suc n) = rw (pow-suc 256 n) (omega (arith, pow_pos n))

digits-add : (m n v : ℕ) → digits (m + n) v ≡ digits m (v % 256 ^ m) ++ digits n (v / 256 ^ m)
digits-add zero n v = rw (zero-add, div-one)
digits-add (suc m) n v =
    let b : 0 < 256 = omega arith in
    rw (suc-add, pow-suc 256 m, mod-mul v (pow_pos m) b, digits_mod (v / 256 % 256 ^ m) (mod-lt v b), digits_div (v / 256 % 256 ^ m) (mod-lt v b), mul_comm (256 ^ m) 256, ← div-div-eq-div-mul v 256 (256 ^ m))
    (ap (λ (r : List ℕ). v % 256 ∷ r) (digits-add m n (v / 256)))

number_digits : (n v : ℕ) → v < 256 ^ n → number (digits n v) ≡ v
number_digits zero v h = omega arith
number_digits (suc n) v h =
    let k : v / 256 < 256 ^ n = (div-lt_iff_lt-mul {k = 256} (omega arith)).1 (rw (pow-suc 256 n) at h) in
    rw (number_digits n (v / 256) k) (omega (arith, div-add-mod' v 256))

digits_number : (l : List ℕ) → Bytes l → digits (length l) (number l) ≡ l
digits_number [] f = refl
digits_number (b ∷ l) f =
    let e : b + number l * 256 ≡ number l * 256 + b = omega arith in
    rw (e, digits_mod (number l) (f 0), digits_div (number l) (f 0), digits_number l (λ i. f (suc i)))

number-said : (n : ℕ) (s : List ℕ) (a : ℕ) → a + n ≤ length s → number (win s a n) ≡ said n s a
number-said zero s a h = rw win-none
number-said (suc n) s a h = rw (win-cons s a n (omega arith), number-said n s (a + 1) (omega arith))

said-win : (m : ℕ) (s : List ℕ) (a n i : ℕ) → i + m ≤ n → said m (win s a n) i ≡ said m s (a + i)
said-win zero s a n i h = refl
said-win (suc m) s a n i h = rw (get_or-win s a n i (omega arith), said-win m s a n (i + 1) (omega arith)) (simp add_assoc)

said-digits : (n v : ℕ) → said n (digits n v) 0 ≡ number (digits n v)
said-digits n v = sym (number-said n (digits n v) 0 (omega (arith, length_digits n v))) ∙ rw (win-whole (digits n v) n (length_digits n v))

eqb_sum : (a m : ℕ) → eqb (a + m * 256) 0 ≡ eqb a 0 && eqb m 0
eqb_sum zero zero = refl
eqb_sum zero (suc m) = ne_eqb (0 + suc m * 256) 0 (λ e. omega arith) ∙ sym (eqb-suc-zero m)
eqb_sum (suc a) m = rw (suc-add, eqb-suc-zero, eqb-suc-zero)

zero_number : (l : List ℕ) → all_zero l ≡ eqb (number l) 0
unfolding all_zero
zero_number [] = refl
zero_number (b ∷ l) = rw (zero_number l) (sym (eqb_sum b (number l)))

-- ---- a number of m bytes, as it is read at a place and written

pub record Width (m : ℕ) (le : List ℕ → ℕ → ℕ) (bytes : ℕ → List ℕ) : Type 0 where
  reads : (s : List ℕ) (a : ℕ) → le s a ≡ said m s a
  writes : (v : ℕ) → bytes v ≡ digits m v

pub width16 : Width 2 le16 bytes16
width16 = record { reads = λ s a. omega arith; writes = λ v. refl }

bytes32-digits : (v : ℕ) → bytes32 v ≡ digits 4 v
bytes32-digits v = simp div-div-eq-div-mul

pub width32 : Width 4 le32 bytes32
width32 = record { reads = λ s a. simp add_assoc (omega arith); writes = bytes32-digits }

pub width64 : Width 8 le64 bytes64
width64 = record {
  reads = λ s a. simp add_assoc (omega arith);
  writes = λ v. ap₂ ◌++◌ (bytes32-digits (v % 4294967296)) (bytes32-digits (v / 4294967296)) ∙ sym (digits-add 4 4 v);
}

module _ {m : ℕ} {le : List ℕ → ℕ → ℕ} {bytes : ℕ → List ℕ} (w : Width m le bytes) where
  -- a number's bytes say it
  pub le_bytes : (v : ℕ) → v < 256 ^ m → le (bytes v) 0 ≡ v
  le_bytes v h = rw (w.writes v) (w.reads (digits m v) 0 ∙ said-digits m v ∙ number_digits m v h)

  -- in a window
  pub le-win : (s : List ℕ) (a n i : ℕ) → i + m ≤ n → le (win s a n) i ≡ le s (a + i)
  le-win s a n i h = w.reads (win s a n) i ∙ said-win m s a n i h ∙ sym (w.reads s (a + i))

  pub le_front : (s : List ℕ) (a n : ℕ) → m ≤ n → le (win s a n) 0 ≡ le s a
  le_front s a n h = le-win s a n 0 (omega arith) ∙ rw add-zero

  -- the number that a window says
  number-le : (s : List ℕ) (a : ℕ) → a + m ≤ length s → number (win s a m) ≡ le s a
  number-le s a h = number-said m s a h ∙ sym (w.reads s a)

  -- bytes are those of the number that they say
  pub bytes_le : (s : List ℕ) → Bytes s → (a : ℕ) → a + m ≤ length s → bytes (le s a) ≡ win s a m
  bytes_le s f a h = w.writes (le s a) ∙ rw (length-win s a m h, number-le s a h) at (digits_number (win s a m) (bytes_win s a m h f))

  -- bytes that say 0 are 0
  pub zero-le : (s : List ℕ) (a : ℕ) → a + m ≤ length s → all_zero (win s a m) ≡ eqb (le s a) 0
  zero-le s a h = zero_number (win s a m) ∙ rw (number-le s a h)

-- ---- what std reads from a window, and what it writes

module _ (s : List ℕ) (a : ℕ) where
  pub le16_read : from_le_bytes w16 (win s a 2) ≡ le16 s a
  le16_read = le_front width16 s a 2 (omega arith)

  pub le32_read : from_le_bytes w32 (win s a 4) ≡ le32 s a
  le32_read = le_front width32 s a 4 (omega arith)

  pub le64_read : from_le_bytes w64 (win s a 8) ≡ le64 s a
  le64_read =
      let e : from_le_bytes w64 (win s a 8) ≡ le64 (win s a 8) 0 = omega arith in
      e ∙ le_front width64 s a 8 (omega arith)

pub bytes64_written : (v : ℕ) → to_le_bytes w64 v ≡ bytes64 v
bytes64_written v =
    let e : to_le_bytes w64 v ≡ digits 8 v = simp div-div-eq-div-mul in
    e ∙ sym (width64.writes v)
