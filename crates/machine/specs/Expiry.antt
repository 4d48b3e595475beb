-- How a state changes: its parts replaced, sessions ended; and 01, "Expiry comes first".
use Rattle.std.specs.Prelude.{Bool, List, [], ◌∷◌, map, ℕ, leb, get_or, set, if◌then◌else◌}
use Rattle.std.proofs.Math.Option.{Option, none, some}
use Rattle.machine.specs.Tables.{mem}
use Rattle.machine.specs.Session.{is_due}
use Rattle.machine.specs.State.{Value, Head, Lease, Key, blank, Slot, no_session, session, Staged, Row, no_row, row, State}
use Rattle.machine.specs.declared.Session.{Session}

abbrev pub with_head : State → Head → State
with_head s h = record { head = h; keys = s.keys; sessions = s.sessions; rows = s.rows }

abbrev pub with_keys : State → List Key → State
with_keys s l = record { head = s.head; keys = l; sessions = s.sessions; rows = s.rows }

abbrev pub with_sessions : State → List Slot → State
with_sessions s l = record { head = s.head; keys = s.keys; sessions = l; rows = s.rows }

abbrev pub with_rows : State → List Row → State
with_rows s l = record { head = s.head; keys = s.keys; sessions = s.sessions; rows = l }

abbrev pub with_clock : State → ℕ → State
with_clock s t = with_head s (record { clock = t; read_life = s.head.read_life; write_life = s.head.write_life; next_session = s.head.next_session; next_token = s.head.next_token })

-- the next session number and the next token
abbrev pub with_numbers : State → ℕ → ℕ → State
with_numbers s n t = with_head s (record { clock = s.head.clock; read_life = s.head.read_life; write_life = s.head.write_life; next_session = n; next_token = t })

abbrev pub set_value : List Key → ℕ → Option Value → List Key
set_value l k v = set l k (record { value = v; lease = (get_or l k blank).lease })

abbrev pub set_lease : List Key → ℕ → Option Lease → List Key
set_lease l k t = set l k (record { value = (get_or l k blank).value; lease = t })

-- the sessions ns and their rows end
abbrev pub free_session : List ℕ → Slot → Slot
free_session ns no_session = no_session
free_session ns (session x) = if mem x.number ns then no_session else session x

abbrev pub free_if_of : List ℕ → Row → Row
free_if_of ns no_row = no_row
free_if_of ns (row n k d u) = if mem n ns then no_row else row n k d u

unfoldable pub leave : List ℕ → State → State
leave ns s = with_sessions (with_rows s (map (free_if_of ns) s.rows)) (map (free_session ns) s.sessions)

-- each row of the sessions ns sets its key's value by f
abbrev pub settle : List ℕ → (Staged → Option Value) → List Row → List Key → List Key
settle ns f [] ks = ks
settle ns f (no_row ∷ rs) ks = settle ns f rs ks
settle ns f (row n k d u ∷ rs) ks = settle ns f rs (if mem n ns then set_value ks k (f u) else ks)

-- the sessions ns end, and the values of their keys become what f says
unfoldable pub finish : List ℕ → (Staged → Option Value) → State → State
finish ns f s = leave ns (with_keys s (settle ns f s.rows s.keys))

-- "the values of its keys are dropped": the sweep's one word on values
abbrev pub lapsed_value : Staged → Option Value
lapsed_value u = none

-- "every I lease with deadline at or before now is removed"
abbrev pub unlapsed : ℕ → Option Lease → Option Lease
unlapsed now none = none
unlapsed now (some l) = if leb l.until now then none else some l

abbrev pub lapsed_lease : ℕ → Key → Key
lapsed_lease now e = record { value = e.value; lease = unlapsed now e.lease }

-- the numbers of the sessions that pass a test
abbrev pub those : (Session → Bool) → List Slot → List ℕ
those p [] = []
those p (no_session ∷ l) = those p l
those p (session x ∷ l) = let r = those p l in if p x then x.number ∷ r else r

-- "every open session with deadline at or before now ends"
unfoldable pub expire : ℕ → State → State
expire now s = finish (those (is_due now) s.sessions) lapsed_value (with_keys s (map (lapsed_lease now) s.keys))
