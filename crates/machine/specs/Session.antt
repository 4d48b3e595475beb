-- A session's record: open until a deadline, or sealed with none, and its count of staging steps.
use Rattle.std.specs.Prelude.{Bool, true, false, ℕ, ◌+◌, eqb, leb, ltb, if◌then◌else◌}
use Rattle.machine.specs.declared.Life.{Life}
use Rattle.machine.specs.declared.Session.{Session}
use Rattle.machine.specs.declared.Step.{Step}
use Rattle.machine.specs.declared.Validation.{Validation}

abbrev pub opened : ℕ → ℕ → Session
opened n until = record { number = n; life = Life.Open until; count = 0 }

-- one more step
abbrev pub advanced : Session → Session
advanced x = record { number = x.number; life = x.life; count = x.count + 1 }

abbrev pub sealed : Session → Session
sealed x = record { number = x.number; life = Life.Sealed; count = x.count }

abbrev pub sealed_life : Life → Bool
sealed_life (Life.Open until) = false
sealed_life Life.Sealed = true

abbrev pub is_sealed : Session → Bool
is_sealed x = sealed_life x.life

-- open, with its deadline at or before now
abbrev pub due_life : ℕ → Life → Bool
due_life now (Life.Open until) = leb until now
due_life now Life.Sealed = false

abbrev pub is_due : ℕ → Session → Bool
is_due now x = due_life now x.life

-- "a step below the session's count answers REPEATED .. An equal step acts and adds one to the count"
abbrev pub step_of : Session → ℕ → Step
step_of x step = if ltb step x.count then Step.Repeats else if ltb x.count step then Step.Ahead else Step.Acts (advanced x)

-- "open and n equals its count, it is sealed .. open and n differs, it ends .. Sealed and n equal, VALIDATED"; sealed and n differs is refused
abbrev pub validation_of : Session → ℕ → Validation
validation_of x n = if eqb n x.count then Validation.Seals (sealed x) else if is_sealed x then Validation.Clashes else Validation.Loses
