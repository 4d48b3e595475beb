-- The bits of a number with one more bit: a bit of `a | b` is the larger of the two bits, and a power of two has one bit.
use mathlib.Core.Path.{◌≡◌, refl, ◌∙◌}
use mathlib.Core.Bool.{false, ◌||◌}
use Prim.Native.Nat.{ℕ, zero, suc, ◌*◌, ◌/◌, ◌%◌, ◌^◌, ◌<◌, max}
use native.Mathlib.Nat.{div-eq_of_lt, div-one, mod-eq_of_lt, mul-div-mul_right, mul-mod_left, one-mul, pow-suc, zero-div, zero-max}
use native.Mathlib.Omega.{arith}
use lib.Dec.{eqb, lit<, eqb-zero-suc, eqb-suc-zero, eqb-suc-suc}
use lib.Pow.{pow-lt}
use lib.Bits.{bit_or, or_step, or_shr}
use Rattle.joins.specs.Bits.{word_bits, has_bit, with_bit}

or_low : (a b : ℕ) → bit_or a b % 2 ≡ max (a % 2) (b % 2)
or_low a b = omega (arith, or_step a b)

max_bit : (u v : ℕ) → u < 2 → v < 2 → eqb (max u v) 1 ≡ eqb u 1 || eqb v 1
max_bit zero v h k = rw zero-max
max_bit (suc zero) zero h k = refl
max_bit (suc zero) (suc zero) h k = refl
max_bit (suc zero) (suc (suc v)) h k = absurd (omega arith)
max_bit (suc (suc u)) v h k = absurd (omega arith)

bit_or_lem : (m x c : ℕ) → has_bit (bit_or m x) c ≡ has_bit m c || has_bit x c
bit_or_lem m x c =
    rw (or_shr m x c, or_low (m / 2 ^ c) (x / 2 ^ c)) (max_bit (m / 2 ^ c % 2) (x / 2 ^ c % 2) (omega arith) (omega arith))

bit_power : (b c : ℕ) → has_bit (2 ^ b) c ≡ eqb c b
bit_power zero zero = refl
bit_power zero (suc c) = rw (div-eq_of_lt (pow-lt {i = 0} {j = suc c} (omega arith)), eqb-suc-zero)
bit_power (suc b) zero = rw (div-one, pow-suc 2 b, mul-mod_left (2 ^ b) 2, eqb-zero-suc b)
bit_power (suc b) (suc c) = rw (pow-suc 2 b, pow-suc 2 c, mul-div-mul_right (2 ^ b) (2 ^ c) (lit< tt), eqb-suc-suc) (bit_power b c)

pub bit_none : (c : ℕ) → has_bit 0 c ≡ false
bit_none c = rw zero-div

pub bit_with : (m b c : ℕ) → has_bit (with_bit m b) c ≡ has_bit m c || eqb c b
bit_with m b c = bit_or_lem m (2 ^ b) c ∙ rw (bit_power b c)

-- the shift of `bit_with` loses nothing
pub one_shifted : (b : ℕ) → b < word_bits → 1 * 2 ^ b % 2 ^ word_bits ≡ 2 ^ b
one_shifted b h = rw one-mul (mod-eq_of_lt (pow-lt {i = b} {j = word_bits} h))
