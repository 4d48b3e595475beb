-- What a state before expiry tells of the state after it: who is left, which rows go with their sessions and which stay.
use Rattle.std.specs.Prelude.{ℕ, Bool, not, ◌&&◌, Option, Some, None}
use Rattle.machine.specs.State.{Slot, no_session, session, Row, State, on, session_of}
use Rattle.layout.specs.Fields.{row_session}
use Rattle.deadlines.specs.Deadlines.{due_slot}
use Rattle.machine.specs.declared.Session.{Session}

abbrev pub left_of : Slot → Option Session
left_of no_session = None
left_of (session x) = Some x

-- the row's session is due
abbrev pub goes : ℕ → State → Row → Bool
goes now s r = due_slot now (session_of s (row_session r))

-- the row is on key k, and its session is not due
abbrev pub stays_on : ℕ → State → ℕ → Row → Bool
stays_on now s k r = on k r && not (goes now s r)
