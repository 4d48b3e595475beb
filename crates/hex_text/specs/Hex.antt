-- Values as the rehearsal prints and reads them. 01, "The rehearsal": "values are lower-case hex, `-` for empty."
use Rattle.std.specs.Prelude.{ℕ, ◌+◌, ◌-◌, ◌*◌, ◌/◌, ◌%◌, Bool, true, false, ◌&&◌, List, [], ◌∷◌, length, eqb, leb, ltb, if◌then◌else◌, Some, None, Option as ProgramOption}
use Rattle.std.proofs.Math.Option.{Option, none, some}

-- `-`
abbrev pub dash : ℕ
dash = 45

-- the digit that says n, below 16: `0` to `9`, `a` to `f`
abbrev pub digit_of : ℕ → ℕ
digit_of n = if ltb n 10 then 48 + n else 97 + (n - 10)

-- the number that a digit says; 16 for a byte that is no digit
unfoldable pub digit_value : ℕ → ℕ
digit_value b =
    if leb 48 b && leb b 57 then b - 48
    else if leb 97 b && leb b 102 then 10 + (b - 97)
    else 16

-- two digits a byte, the high one first
abbrev pub digits_of : List ℕ → List ℕ
digits_of [] = []
digits_of (b ∷ v) = digit_of (b / 16) ∷ digit_of (b % 16) ∷ digits_of v

-- what is printed of a value
unfoldable pub hex_of : List ℕ → List ℕ
hex_of [] = dash ∷ []
hex_of (b ∷ v) = digits_of (b ∷ v)

abbrev pub all_digits : List ℕ → Bool
all_digits [] = true
all_digits (b ∷ t) = ltb (digit_value b) 16 && all_digits t

-- the bytes that pairs of digits say
abbrev pub bytes_of : List ℕ → List ℕ
bytes_of [] = []
bytes_of (h ∷ []) = []
bytes_of (h ∷ l ∷ t) = (digit_value h * 16 + digit_value l) ∷ bytes_of t

abbrev pub is_dash : List ℕ → Bool
is_dash [] = false
is_dash (b ∷ []) = eqb b dash
is_dash (b ∷ c ∷ t) = false

-- an even number of digits, not 0, and nothing else
abbrev pub is_hex : List ℕ → Bool
is_hex t = ltb 0 (length t) && eqb (length t % 2) 0 && all_digits t

-- what is read: the value that a text says, or none
unfoldable pub read_hex : List ℕ → Option (List ℕ)
read_hex t = if is_dash t then some [] else if is_hex t then some (bytes_of t) else none

-- how many bytes were read, and which
abbrev pub length_read : Option (List ℕ) → ProgramOption ℕ
length_read (some v) = Some (length v)
length_read none = None

abbrev pub value_read : Option (List ℕ) → List ℕ
value_read (some v) = v
value_read none = []
