-- The bits of a number, counted from the least.
use Rattle.std.specs.Prelude.{ℕ, ◌/◌, ◌%◌, ◌^◌, Bool, eqb}
use Rattle.std.specs.Int.Bits.{bit_or}

-- the bits of a word
abbrev pub word_bits : ℕ
word_bits = 64

abbrev pub has_bit : ℕ → ℕ → Bool
has_bit m b = eqb (m / 2 ^ b % 2) 1

-- m with bit b
abbrev pub with_bit : ℕ → ℕ → ℕ
with_bit m b = bit_or m (2 ^ b)
