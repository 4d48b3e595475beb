-- Tables as lists: the first entry that passes a test, how many pass, a member of a list of numbers, and "the first that applies".
use Rattle.std.specs.Prelude.{Bool, true, false, ◌||◌, List, [], ◌∷◌, ℕ, suc, ◌+◌, eqb, get_or, set, if◌then◌else◌}
use Rattle.std.proofs.Math.Option.{Option, none, some}

module _ {A : Type 0} where
  -- the place of the first entry that passes the test; the table's length if none does
  abbrev pub place : (A → Bool) → List A → ℕ
  place p [] = 0
  place p (x ∷ xs) = let r = suc (place p xs) in if p x then 0 else r

  -- that entry, or d
  abbrev pub find : (A → Bool) → A → List A → A
  find p d l = get_or l (place p l) d

  -- x in that place
  abbrev pub put_at : (A → Bool) → A → List A → List A
  put_at p x l = set l (place p l) x

  abbrev pub any : (A → Bool) → List A → Bool
  any p [] = false
  any p (x ∷ xs) = p x || any p xs

  -- how many entries pass the test
  abbrev pub count : (A → Bool) → List A → ℕ
  count p [] = 0
  count p (x ∷ xs) = (if p x then 1 else 0) + count p xs

abbrev pub is_none : {A : Type 0} → Option A → Bool
is_none none = true
is_none (some a) = false

-- n is one of the numbers
abbrev pub mem : ℕ → List ℕ → Bool
mem n l = any (λ m. eqb m n) l

-- what goes with the first test that holds
abbrev pub first : {A : Type 0} → List (Bool × A) → Option A
first [] = none
first (x ∷ xs) = let r = first xs in if x.0 then some x.1 else r
