-- 01, "The commands": what each accepted command answers and does, on the state after expiry.
use Rattle.std.specs.Prelude.{Bool, false, List, [], ◌∷◌, ◌++◌, ℕ, suc, ◌+◌, ◌-◌, max, eqb, leb, ltb, length, set, if◌then◌else◌, Some, None, Option as ProgramOption}
use Rattle.std.proofs.Math.Option.{Option, none, some}
use Rattle.counts.specs.Count.{read_count, decimal, raised, lowered}
use Rattle.machine.specs.Sizes.{value_max}
use Rattle.machine.specs.Words.{APPEND, PREPEND, INCREMENT}
use Rattle.machine.specs.Tables.{put_at, is_none}
use Rattle.machine.specs.Session.{opened, advanced, sealed}
use Rattle.machine.specs.Decision.{grants}
use Rattle.machine.specs.State.{Value, Lease, Slot, no_session, session, Staged, nothing, staged, DROP, Row, no_row, row, State, free, free_row, kind_of, staged_in, session_place, session_of, row_place, row_of, cached, lease_on}
use Rattle.machine.specs.Expiry.{with_keys, with_sessions, with_rows, with_numbers, set_value, set_lease, leave, finish}
use Rattle.machine.specs.Refusals.{decide, blocked, Sight, sight, count_of}
use Rattle.machine.specs.declared.Life.{Life}
use Rattle.machine.specs.declared.Session.{Session}
use Rattle.machine.specs.declared.Answer.{Answer}
use Rattle.machine.specs.declared.Command.{Command}
use Rattle.machine.specs.declared.Command.TheVariants.{Begin, Get, Fill, Quar, Stage, Delta, Validate, Done, Undo, Evict, Tick}

-- an answer, the value handed out with it, and the state after it
pub record Outcome : Type 0 where
  pub answer : Answer
  pub handed : Value
  pub after : State

-- an answer that hands out no value
abbrev pub told : Answer → State → Outcome
told a s = record { answer = a; handed = []; after = s }

-- BEGIN
unfoldable pub begins : State → ℕ → Outcome
begins s now =
    told (Answer.Session s.head.next_session)
    (with_numbers (with_sessions s (put_at free (session (opened s.head.next_session (now + s.head.write_life))) s.sessions)) (suc s.head.next_session) s.head.next_token)

-- GET

-- a deadline, or none for a sealed session
abbrev pub life_end : Life → Option ℕ
life_end (Life.Open until) = some until
life_end Life.Sealed = none

abbrev pub slot_end : Slot → Option ℕ
slot_end no_session = none
slot_end (session x) = life_end x.life

abbrev pub later : Option ℕ → Option ℕ → Option ℕ
later none b = none
later (some a) none = none
later (some a) (some b) = some (max a b)

-- the latest deadline of the sessions with a row on key k; none if one of them is sealed
abbrev pub latest : State → ℕ → List Row → Option ℕ
latest s k [] = some 0
latest s k (no_row ∷ rs) = latest s k rs
latest s k (row n j d u ∷ rs) = let r = latest s k rs in if eqb j k then later (slot_end (session_of s n)) r else r

abbrev pub lease_end : Option Lease → Option ℕ → Option ℕ
lease_end none r = r
lease_end (some l) r = some l.until

abbrev pub less_now : Option ℕ → ℕ → ℕ
less_now none now = 0
less_now (some t) now = t - now

-- "w is 0 if a sealed session blocks, else the latest blocking deadline less now"
unfoldable pub wait : State → ℕ → ℕ → ℕ
wait s k now = less_now (lease_end (lease_on s k) (latest s k s.rows)) now

unfoldable pub leased : State → ℕ → ℕ → Outcome
leased s now k =
    told (Answer.Lease s.head.next_token)
    (with_numbers (with_keys s (set_lease s.keys k (some (record { token = s.head.next_token; until = now + s.head.read_life })))) s.head.next_session (suc s.head.next_token))

-- absent: blocked, BACKOFF w; free, LEASE t
unfoldable pub missed : State → ℕ → ℕ → Outcome
missed s now k = if blocked s k then told (Answer.Backoff (wait s k now)) s else leased s now k

unfoldable pub looked : State → ℕ → ℕ → ℕ → Option Sight → Outcome
looked s now n k (some x) = record { answer = Answer.Hit x.at (length x.value); handed = x.value; after = s }
looked s now n k none = if free_row (row_of s n k) then missed s now k else told Answer.Ask s

-- FILL

abbrev pub matches : ℕ → Option Lease → Bool
matches t none = false
matches t (some l) = eqb l.token t

unfoldable pub fills : State → ℕ → Value → Outcome
fills s k v = told Answer.Stored (with_keys s (set s.keys k (record { value = some v; lease = none })))

-- QUAR: by the decision table; a grant takes the lowest free row and voids an I lease
unfoldable pub asks : State → ℕ → ℕ → ℕ → Outcome
asks s n k kind =
    if grants (decide s k kind)
    then told Answer.Granted (with_keys (with_rows s (put_at free_row (row n k kind nothing) s.rows)) (set_lease s.keys k none))
    else told Answer.Aborted (leave (n ∷ []) s)

-- STAGE and DELTA

abbrev pub fits : Value → Option Value
fits v = if leb (length v) value_max then some v else none

-- 3 increment, 4 decrement
abbrev pub counts : ℕ → ProgramOption ℕ → ProgramOption ℕ → Option Value
counts operation None x = none
counts operation (Some a) None = none
counts operation (Some a) (Some b) = some (decimal (if eqb operation INCREMENT then raised a b else lowered a b))

-- 1 append, 2 prepend; the operand x on the value v
unfoldable pub operate : ℕ → Value → Value → Option Value
operate operation x v =
    if eqb operation APPEND then fits (v ++ x)
    else if eqb operation PREPEND then fits (x ++ v)
    else counts operation (read_count v) (read_count x)

abbrev pub or_drop : Option Value → Staged
or_drop none = DROP
or_drop (some v) = staged v

-- "on the staged value or else the cached one"
unfoldable pub changed : ℕ → Value → Staged → Option Value → Staged
changed operation x nothing none = DROP
changed operation x nothing (some v) = or_drop (operate operation x v)
changed operation x (staged v) c = or_drop (operate operation x v)
changed operation x DROP c = DROP

abbrev pub staged_answer : Staged → Answer
staged_answer nothing = Answer.Dropped
staged_answer (staged v) = Answer.Staged
staged_answer DROP = Answer.Dropped

abbrev pub restaged : Staged → Row → Row
restaged u no_row = no_row
restaged u (row n k d v) = row n k d u

abbrev pub on_slot : (Session → Session) → Slot → Slot
on_slot f no_session = no_session
on_slot f (session x) = session (f x)

-- the session of number n put through f
abbrev pub with_session : State → ℕ → (Session → Session) → State
with_session s n f = with_sessions s (set s.sessions (session_place s n) (on_slot f (session_of s n)))

-- what is staged in the row of session n on key k becomes u
abbrev pub with_staged : State → ℕ → ℕ → Staged → State
with_staged s n k u = with_rows s (set s.rows (row_place s n k) (restaged u (row_of s n k)))

-- "a step below the session's count answers REPEATED and stages nothing. An equal step acts and adds one to the count, DROPPED included"
unfoldable pub stages : State → ℕ → ℕ → ℕ → Staged → Outcome
stages s n step k u =
    if ltb step (count_of s n) then told Answer.Repeated s
    else told (staged_answer u) (with_staged (with_session s n advanced) n k u)

-- DONE: "each row's staged value is cached; a key with nothing or DROP staged becomes absent"
abbrev pub to_cache : Staged → Option Value
to_cache nothing = none
to_cache (staged v) = some v
to_cache DROP = none

-- each command
unfoldable pub effect : State → ℕ → Command → Value → Outcome
effect s now Begin v = begins s now
effect s now (Get n k) v = looked s now n k (sight s n k)
effect s now (Fill t k) v = if matches t (lease_on s k) then fills s k v else told Answer.Ignored s
effect s now (Quar n k kind) v = if eqb (kind_of (row_of s n k)) kind then told Answer.Held s else asks s n k kind
effect s now (Stage n step k) v = stages s n step k (staged v)
effect s now (Delta n step k operation) v = stages s n step k (changed operation v (staged_in (row_of s n k)) (cached s k))
effect s now (Validate n m) v =
    if eqb m (count_of s n) then told Answer.Validated (with_session s n sealed) else told Answer.Lost (leave (n ∷ []) s)
effect s now (Done n) v = told Answer.Done (finish (n ∷ []) to_cache s)
effect s now (Undo n) v = told Answer.Undone (leave (n ∷ []) s)
effect s now (Evict k) v = if is_none (cached s k) then told Answer.Empty s else told Answer.Evicted (with_keys s (set_value s.keys k none))
effect s now Tick v = told Answer.Ticked s
