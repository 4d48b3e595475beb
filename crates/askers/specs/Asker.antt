-- The session that asks, as the refusals NO SESSION and SEALED leave it.
use Rattle.std.specs.Prelude.{ℕ, ◌<◌, if◌then◌else◌, Result, Ok, Err}
use Rattle.machine.specs.Words.{NO-SESSION, SEALED}
use Rattle.machine.specs.Sizes.{session_count}
use Rattle.machine.specs.Session.{is_sealed}
use Rattle.machine.specs.State.{Slot, no_session, session, State, session_place, session_of}
use Rattle.machine.specs.declared.Refusal.{Refusal}
use Rattle.askers.specs.declared.Asker.{Asker}

-- what stands at place i
abbrev pub asker_at : ℕ → Slot → Result Asker Refusal
asker_at i no_session = Err NO-SESSION
asker_at i (session x) = if is_sealed x then Err SEALED else Ok (record { place = i; session = x })

-- the session of number n
unfoldable pub asker_of : State → ℕ → Result Asker Refusal
asker_of s n = asker_at (session_place s n) (session_of s n)

-- its place lies within the table
abbrev pub Placed : Result Asker Refusal → Type 0
Placed (Err e) = Unit
Placed (Ok a) = a.place < session_count
