-- A step in the parts in which the code takes it: the clock's test, the command on a state on which nothing lapses, the clock.
-- Where nothing lapses that is the whole step.
use Rattle.machine.specs.declared.Refusal.{Refusal}
use Rattle.std.specs.Prelude.{if◌then◌else◌}
use Prim.Native.Nat.{ℕ}
use mathlib.Core.Path.{◌≡◌, refl}
use mathlib.Core.Bool.{Bool, true, false}
use mathlib.Core.Option.{Option, none, some}
use Rattle.machine.specs.Tables.{first}
use Rattle.machine.specs.Words.{CLOCK}
use Rattle.machine.specs.State.{Value, State}
use Rattle.machine.specs.Expiry.{with_clock, expire}
use Rattle.machine.specs.Refusals.{clock_refusal, refusals, refusal}
use Rattle.machine.specs.Effects.{Outcome, told, effect}
use Rattle.machine.specs.Step.{settled, step}
use Rattle.machine.specs.declared.Answer.{Answer}
use Rattle.machine.specs.declared.Command.{Command}
use Rattle.machine.proofs.Refused.{effect_accepts}
use Rattle.outcome.specs.Outcome.{unless, tried, acted, is_refused}

-- with the clock of its time
abbrev pub clocked : ℕ → Outcome → Outcome
clocked now r = record { answer = r.answer; handed = r.handed; after = with_clock r.after now }

module _ (s : State) (now : ℕ) (c : Command) (v : Value) where
  -- CLOCK comes first
  pub acted_clock : (clock_refusal s now).0 ≡ true → acted s now c v ≡ told (Answer.Refused CLOCK) s
  unfolding acted refusal settled
  acted_clock e = rw e

  -- in time the clock stays where the command is refused
  pub acted_in_time : {t : Bool} → (clock_refusal s now).0 ≡ false → is_refused (tried s now c v).answer ≡ t → acted s now c v ≡ (if t then tried s now c v else clocked now (tried s now c v))
  unfolding acted refusal settled tried
  acted_in_time e q = rw (e, ← q) (go (first (refusals s c v)))
    where
      go : (o : Option Refusal) → let u = unless o s (effect s now c v) in settled s now o (effect s now c v) ≡ (if is_refused u.answer then u else clocked now u)
      go (some d) = refl
      go none = rw (effect_accepts s now c v)

-- where nothing lapses
pub step_still : (s : State) (now : ℕ) (c : Command) (v : Value) → expire now s ≡ s → step s now c v ≡ acted s now c v
unfolding step acted
step_still s now c v e = rw e
