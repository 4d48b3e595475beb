-- Counts: what bytes say a number, and the bytes that say it. 01, DELTA: "A count is 1 to 20 ASCII digits, at most 2^64 - 1, digits only ..
-- results have no leading zero."
use Rattle.std.specs.Prelude.{ℕ, zero, suc, ◌+◌, ◌-◌, ◌*◌, ◌/◌, ◌%◌, ◌^◌, Bool, true, ◌&&◌, List, [], ◌∷◌, length, nat_le, nat_lt, if◌then◌else◌, Option, Some, None}
use Rattle.lent.specs.Bytes.{splice}

-- the most digits a count has, and the largest count
abbrev pub digits_max : ℕ
digits_max = 20

abbrev pub count_max : ℕ
count_max = 18446744073709551615

-- an ASCII digit, 0 to 9
abbrev pub digit : ℕ → Bool
digit b = nat_le 48 b && nat_le b 57

abbrev pub all_digits : List ℕ → Bool
all_digits [] = true
all_digits (b ∷ v) = digit b && all_digits v

-- the number that digits say, behind those that said a
abbrev pub numeral : ℕ → List ℕ → ℕ
numeral a [] = a
numeral a (b ∷ v) = numeral (a * 10 + (b - 48)) v

abbrev pub is_count : List ℕ → Bool
is_count v = nat_le 1 (length v) && nat_le (length v) digits_max && all_digits v && nat_le (numeral 0 v) count_max

unfoldable pub read_count : List ℕ → Option ℕ
read_count v = if is_count v then Some (numeral 0 v) else None

-- the count a with the digit b behind it
unfoldable pub extended : ℕ → ℕ → Option ℕ
extended a b = if digit b && nat_le (a * 10 + (b - 48)) count_max then Some (a * 10 + (b - 48)) else None

-- the digits of n before those of v, at most f of them; none is a leading zero, but the one digit of 0
abbrev pub digits : ℕ → ℕ → List ℕ → List ℕ
digits zero n v = v
digits (suc f) n v = let r = digits f (n / 10) ((48 + n % 10) ∷ v) in if nat_lt n 10 then (48 + n) ∷ v else r

abbrev pub decimal : ℕ → List ℕ
decimal n = digits digits_max n []

-- how many digits n has
unfoldable pub decimal_length : ℕ → ℕ
decimal_length n = length (decimal n)

-- a buffer once a number is written at its front, and the number of its digits
pub record Written : Type 0 where
  pub bytes : List ℕ
  pub number : ℕ

-- where the digits of n do not fit in s, s is as it was and the number 0
unfoldable pub written : ℕ → List ℕ → Written
written n s =
    if nat_le (decimal_length n) (length s)
    then record { bytes = splice s 0 (decimal n); number = decimal_length n }
    else record { bytes = s; number = 0 }

-- increment wraps at 2^64, decrement stops at 0
abbrev pub raised : ℕ → ℕ → ℕ
raised a b = (a + b) % 2 ^ 64

abbrev pub lowered : ℕ → ℕ → ℕ
lowered a b = a - b
