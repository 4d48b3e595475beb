-- A line as fields, and what fields say. 01, "The rehearsal": "time, letter, fields, single spaces between .. Numbers are decimal without leading zeros; values are lower-case hex, `-` for empty."
use Rattle.std.specs.Prelude.{ℕ, ◌+◌, ◌-◌, ◌≤◌, ◌≡◌, Bool, true, false, ◌&&◌, List, [], ◌∷◌, length, drop, get_or, eqb, leb, ltb, if◌then◌else◌, Some, None, Option as ProgramOption}
use Rattle.std.proofs.Math.Option.{Option, none, some}
use Rattle.lent.specs.Bytes.{win}
use Rattle.lent.specs.Text.{space, onto}
use Rattle.counts.specs.Count.{read_count}
use Rattle.hex_text.specs.Hex.{read_hex}

-- the most bytes of a line; two digits a byte, the value of a line that has one has fewer bytes than there is room for
abbrev pub line_max : ℕ
line_max = 200

abbrev pub value_room : ℕ
value_room = 100

-- `0`
abbrev pub zero_digit : ℕ
zero_digit = 48

abbrev pub Field : Type 0
Field = List ℕ

-- ---- the fields of a line

-- a line is cut at each space: one field more than it has spaces, and a field may be empty
unfoldable pub fields : List ℕ → List Field
fields [] = [] ∷ []
fields (b ∷ t) = let fs = fields t in if eqb b space then [] ∷ fs else onto b fs

-- those from place `at` on; none past the line's end
unfoldable pub fields_at : List ℕ → ℕ → List Field
fields_at t at = if leb at (length t) then fields (drop at t) else []

-- the field that starts at `at` ends at e, and the next starts behind the space there
pub record Ends (t : List ℕ) (at e : ℕ) : Type 0 where
  pub from : at ≤ e
  pub within : e ≤ length t
  pub cut : fields_at t at ≡ win t at (e - at) ∷ fields_at t (e + 1)

-- ---- one after the other: where something is read, what follows it

infixr 20 ◌>>=◌
abbrev pub ◌>>=◌ : {A B : Type 0} → Option A → (A → Option B) → Option B
none >>= f = none
some x >>= f = f x

-- ---- numbers

-- a count without a leading zero
unfoldable pub read_number : Field → ProgramOption ℕ
read_number f = if leb 2 (length f) && eqb (get_or f 0 0) zero_digit then None else read_count f

-- a number, and the fields behind it
pub record OneNumber : Type 0 where
  pub number : ℕ
  pub rest : List Field

abbrev pub number_of : ProgramOption ℕ → List Field → Option OneNumber
number_of (Some n) fs = some (record { number = n; rest = fs })
number_of None fs = none

-- the first field as a number, where one is wanted; where none is, 0 and all fields are left
abbrev pub number : Bool → List Field → Option OneNumber
number false fs = some (record { number = 0; rest = fs })
number true [] = none
number true (f ∷ fs) = number_of (read_number f) fs

pub record Numbers : Type 0 where
  pub a : ℕ
  pub b : ℕ
  pub c : ℕ
  pub d : ℕ
  pub rest : List Field

-- the first k fields as numbers, at most four; the others of the four are 0
unfoldable pub numbers : ℕ → List Field → Option Numbers
numbers k fs =
    number (ltb 0 k) fs >>= λ a.
    number (ltb 1 k) a.rest >>= λ b.
    number (ltb 2 k) b.rest >>= λ c.
    number (ltb 3 k) c.rest >>= λ d.
    some (record { a = a.number; b = b.number; c = c.number; d = d.number; rest = d.rest })

-- ---- a letter

pub record Lettered : Type 0 where
  pub letter : ℕ
  pub rest : List Field

-- the first field as a letter: it has one byte
abbrev pub letter : List Field → Option Lettered
letter [] = none
letter ([] ∷ fs) = none
letter ((b ∷ []) ∷ fs) = some (record { letter = b; rest = fs })
letter ((b ∷ c ∷ f) ∷ fs) = none

-- ---- a value

abbrev pub up_to : ℕ → Option (List ℕ) → Option (List ℕ)
up_to most none = none
up_to most (some v) = if ltb most (length v) then none else some v

-- the one field that is left as a value of at most `most` bytes
abbrev pub last_value : ℕ → List Field → Option (List ℕ)
last_value most [] = none
last_value most (f ∷ []) = up_to most (read_hex f)
last_value most (f ∷ g ∷ fs) = none

-- ---- the end of a line

-- x, if no field is left
abbrev pub at_end : {A : Type 0} → List Field → A → Option A
at_end [] x = some x
at_end (f ∷ fs) x = none

-- what follows a command's numbers: a value, if it has one, and else no field and no bytes
abbrev pub ending : Bool → List Field → Option (List ℕ)
ending true fs = last_value value_room fs
ending false fs = at_end fs []

-- ---- what the code's answers say of a line t

abbrev pub number_at : List ℕ → ProgramOption (ℕ × ℕ) → Option OneNumber
number_at t (Some x) = some (record { number = x.0; rest = fields_at t x.1 })
number_at t None = none

abbrev pub numbers_at : List ℕ → ProgramOption (List ℕ × ℕ) → Option Numbers
numbers_at t (Some x) =
    some (record { a = get_or x.0 0 0; b = get_or x.0 1 0; c = get_or x.0 2 0; d = get_or x.0 3 0; rest = fields_at t x.1 })
numbers_at t None = none

abbrev pub letter_at : List ℕ → ProgramOption (ℕ × ℕ) → Option Lettered
letter_at t (Some x) = some (record { letter = x.0; rest = fields_at t x.1 })
letter_at t None = none
