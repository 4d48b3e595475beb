-- SHOW after a HIT.
use Rattle.std.specs.Prelude.{ℕ, ◌≡◌}
use Rattle.machine.specs.State.{Value}
use Rattle.machine.specs.Step.{Shown}
use Rattle.machine.specs.declared.Answer.{Answer}

-- what SHOW gives is the value v of a hit, at its place and of its size
pub record ShowsHit (at size : ℕ) (v : Value) (x : Shown) : Type 0 where
  pub answer : x.answer ≡ Answer.Value size
  pub place : x.at ≡ at
  pub value : x.value ≡ v
