-- 01, "Expiry comes first": whether anything expires, and what expiry does to one key and to one session.
use Rattle.std.specs.Prelude.{ℕ, Bool, ◌||◌, List, [], ◌∷◌, set, if◌then◌else◌}
use Rattle.machine.specs.Tables.{any}
use Rattle.machine.specs.Session.{is_due}
use Rattle.machine.specs.State.{Slot, no_session, session, State, key_of, session_at}
use Rattle.machine.specs.Expiry.{with_keys, with_sessions, lapsed_lease}
use Rattle.deadlines.specs.Deadlines.{lapsed_on, due_slot}

-- some I lease or some session expires
unfoldable pub lapsing : ℕ → State → Bool
lapsing now s = any (lapsed_on now) s.keys || any (due_slot now) s.sessions

-- the I lease on key k goes, if it has lapsed
unfoldable pub lapse_key : ℕ → ℕ → State → State
lapse_key now k s = with_keys s (set s.keys k (lapsed_lease now (key_of s k)))

-- the session at place i goes, if it is due
abbrev pub free_due : ℕ → Slot → Slot
free_due now e = if due_slot now e then no_session else e

-- and its number is noted
abbrev pub noted : ℕ → Slot → List ℕ
noted now no_session = []
noted now (session x) = if is_due now x then x.number ∷ [] else []

unfoldable pub end_due : ℕ → ℕ → State → State
end_due now i s = with_sessions s (set s.sessions i (free_due now (session_at s i)))
