-- A run that keeps the rules, line by line: each event and what it is told. Values are stored and hit, keys are quarantined by each kind,
-- values are staged by STAGE and DELTA, the register writes, sessions finish, and the new values are hit.
use Rattle.std.specs.Prelude.{List, [], ◌∷◌, ◌++◌, map, ℕ, length}
use Rattle.std.proofs.Math.Option.{Option, none, some}
use Rattle.machine.specs.Sizes.{value_at, staged_at}
use Rattle.machine.specs.Words.{INVALIDATE, REFRESH, INCREMENTAL, APPEND, INCREMENT}
use Rattle.machine.specs.State.{Value}
use Rattle.machine.specs.Step.{step}
use Rattle.machine.specs.Examples.{Told, says}
use Rattle.machine.specs.World.{Event, command, write, World, next}
use Rattle.machine.specs.declared.Answer.{Answer}
use Rattle.machine.specs.declared.Command.{Command}
use Rattle.machine.specs.declared.Command.TheVariants.{Begin, Get, Fill, Quar, Stage, Delta, Validate, Done}

-- what an event is told; a write of the register is told nothing
abbrev pub hears : World → Event → Option Told
hears w (command now c v) = let r = step w.state now c v in some (record { answer = r.answer; handed = r.handed })
hears w (write n k v) = none

abbrev pub heard : World → List Event → List (Option Told)
heard w [] = []
heard w (e ∷ es) = hears w e ∷ heard (next w e) es

-- an event and what it is told: a command without a value, with one, a GET answered HIT with the value at a place, a write
abbrev Exchange : Type 0
Exchange = Event × Option Told

abbrev bare : ℕ → Command → Answer → Exchange
bare now c a = (command now c [], some (says a))

abbrev with : ℕ → Command → Value → Answer → Exchange
with now c v a = (command now c v, some (says a))

abbrev hit : ℕ → ℕ → ℕ → ℕ → Value → Exchange
hit now n k at v = (command now (Get n k) [], some (record { answer = Answer.Hit at (length v); handed = v }))

abbrev writes : ℕ → ℕ → Value → Exchange
writes n k v = (write n k v, none)

-- "old", "new", "41", "42", "1"
abbrev old : Value
old = 111 ∷ 108 ∷ 100 ∷ []

abbrev new : Value
new = 110 ∷ 101 ∷ 119 ∷ []

abbrev forty_one : Value
forty_one = 52 ∷ 49 ∷ []

abbrev forty_two : Value
forty_two = 52 ∷ 50 ∷ []

abbrev one : Value
one = 49 ∷ []

-- Key 7 holds the register's first value, the empty one. Session 1 invalidates it, and a token on key 9 with it: others still hit the
-- value from before, until DONE; then what the register wrote is filled in.
abbrev invalidates : List Exchange
invalidates =
    bare 0 (Get 0 7) (Answer.Lease 1)
    ∷ with 1 (Fill 1 7) [] Answer.Stored
    ∷ hit 2 0 7 (value_at 7) []
    ∷ bare 2 (Get 0 9) (Answer.Lease 2)
    ∷ bare 3 Begin (Answer.Session 1)
    ∷ bare 4 (Quar 1 7 INVALIDATE) Answer.Granted
    ∷ bare 4 (Quar 1 9 INVALIDATE) Answer.Granted
    ∷ with 5 (Fill 2 9) new Answer.Ignored
    ∷ bare 5 (Get 1 7) Answer.Ask
    ∷ bare 6 (Validate 1 0) Answer.Validated
    ∷ writes 1 7 old
    ∷ hit 7 0 7 (value_at 7) []
    ∷ bare 7 (Get 0 9) (Answer.Backoff 0)
    ∷ bare 8 (Done 1) Answer.Done
    ∷ bare 9 (Get 0 7) (Answer.Lease 3)
    ∷ with 10 (Fill 3 7) old Answer.Stored
    ∷ hit 11 0 7 (value_at 7) old
    ∷ bare 12 (Get 0 9) (Answer.Lease 4)
    ∷ with 13 (Fill 4 9) [] Answer.Stored
    ∷ []

-- Session 2 refreshes key 7 and appends to key 9; session 3 increments key 9. Each hits what it staged, others the value from before,
-- and once it is written and done, everyone the new one.
abbrev refreshes : List Exchange
refreshes =
    bare 20 Begin (Answer.Session 2)
    ∷ bare 21 (Quar 2 7 REFRESH) Answer.Granted
    ∷ bare 21 (Quar 2 9 INCREMENTAL) Answer.Granted
    ∷ with 22 (Stage 2 0 7) new Answer.Staged
    ∷ with 22 (Delta 2 1 9 APPEND) forty_one Answer.Staged
    ∷ hit 23 2 7 (staged_at 0) new
    ∷ hit 23 0 7 (value_at 7) old
    ∷ bare 24 (Validate 2 2) Answer.Validated
    ∷ writes 2 7 new
    ∷ writes 2 9 forty_one
    ∷ hit 25 0 7 (value_at 7) old
    ∷ bare 26 (Done 2) Answer.Done
    ∷ hit 27 0 7 (value_at 7) new
    ∷ hit 27 0 9 (value_at 9) forty_one
    ∷ bare 30 Begin (Answer.Session 3)
    ∷ bare 31 (Quar 3 9 INCREMENTAL) Answer.Granted
    ∷ with 32 (Delta 3 0 9 INCREMENT) one Answer.Staged
    ∷ hit 33 3 9 (staged_at 0) forty_two
    ∷ hit 33 0 9 (value_at 9) forty_one
    ∷ bare 34 (Validate 3 1) Answer.Validated
    ∷ writes 3 9 forty_two
    ∷ bare 35 (Done 3) Answer.Done
    ∷ hit 36 0 9 (value_at 9) forty_two
    ∷ []

-- both, in turn
abbrev pub lines : List Exchange
lines = invalidates ++ refreshes

abbrev pub events : List Event
events = map (λ (x : Exchange). x.0) lines

-- what each event of the run is to be told
abbrev pub expected : List (Option Told)
expected = map (λ (x : Exchange). x.1) lines
