-- The refusal that a command meets after expiry, told of the bytes of the state before it.
use Rattle.std.specs.Prelude.{ℕ, ◌≡◌, true, List, Result, Ok, Err}
use Rattle.std.proofs.Math.Option.{Option, none, some}
use Rattle.machine.specs.State.{State}
use Rattle.machine.specs.Expiry.{expire}
use Rattle.machine.specs.Sound.{sound}
use Rattle.layout.specs.Holds.{Holds}
use Rattle.machine.specs.declared.Refusal.{Refusal}

abbrev pub refusal_of : Option Refusal → Result Unit Refusal
refusal_of none = Ok tt
refusal_of (some e) = Err e

-- of every sound state that the bytes hold: r is the refusal that f says of it after expiry
abbrev pub Meets : List ℕ → ℕ → (State → Option Refusal) → Result Unit Refusal → Type 0
Meets b now f r = (s : State) → Holds b s → sound s ≡ true → r ≡ refusal_of (f (expire now s))
