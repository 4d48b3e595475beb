-- What DELTA makes of a value, in a buffer that is lent for it, and what it stages.
use Rattle.std.specs.Prelude.{ℕ, ◌≤◌, ◌≡◌, List, take, set, Option as Made, Some, None}
use Rattle.std.proofs.Math.Option.{Option, none, some}
use Rattle.machine.specs.Sizes.{value_max}
use Rattle.machine.specs.State.{Value, Staged, State, staged_in, row_at, cached}
use Rattle.machine.specs.Expiry.{with_rows}
use Rattle.machine.specs.Effects.{Outcome, told, changed, staged_answer, restaged}

-- the new value stands at the front of the buffer b; or there is none
abbrev pub value_in : Made ℕ → List ℕ → Option Value
value_in (Some n) b = some (take n b)
value_in None b = none

abbrev pub Short : Made ℕ → Type 0
Short (Some n) = n ≤ value_max
Short None = Unit

-- the buffer b has the result o, if there is one
pub record Makes (o : Option Value) (r : Made ℕ) (b : List ℕ) : Type 0 where
  pub value : value_in r b ≡ o
  pub short : Short r

-- what is to be staged in row i, on key k
abbrev pub changed_in : State → ℕ → ℕ → ℕ → Value → Staged
changed_in s i k operation x = changed operation x (staged_in (row_at s i)) (cached s k)

-- and it is staged
unfoldable pub changes : State → ℕ → ℕ → ℕ → Value → Outcome
changes s i k operation x =
    told (staged_answer (changed_in s i k operation x)) (with_rows s (set s.rows i (restaged (changed_in s i k operation x) (row_at s i))))
