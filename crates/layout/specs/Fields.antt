-- What single fields of a record say, also where nothing is there: then each says 0.
use Rattle.std.specs.Prelude.{ℕ, length}
use Rattle.std.proofs.Math.Option.{Option, none, some}
use Rattle.machine.specs.State.{Value, Lease, Slot, no_session, session, Staged, nothing, staged, DROP, Row, no_row, row}
use Rattle.machine.specs.declared.Life.{Life}
use Rattle.machine.specs.declared.Session.{Session}

-- a key: the length of its value, and the deadline of its I lease
abbrev pub value_length : Option Value → ℕ
value_length none = 0
value_length (some v) = length v

abbrev pub lease_until : Option Lease → ℕ
lease_until none = 0
lease_until (some l) = l.until

-- a row: its session, its key, the mark of what is staged (0 nothing) and the length of a staged value
abbrev pub row_session : Row → ℕ
row_session no_row = 0
row_session (row n k d u) = n

abbrev pub row_key : Row → ℕ
row_key no_row = 0
row_key (row n k d u) = k

abbrev pub VALUED : ℕ
VALUED = 1

abbrev pub DROPPED : ℕ
DROPPED = 2

abbrev pub staged_mark : Staged → ℕ
staged_mark nothing = 0
staged_mark (staged v) = VALUED
staged_mark DROP = DROPPED

abbrev pub staged_length : Staged → ℕ
staged_length nothing = 0
staged_length (staged v) = length v
staged_length DROP = 0

-- a session's record
abbrev pub session_in : Slot → Session
session_in no_session = record { number = 0; life = Life.Open 0; count = 0 }
session_in (session x) = x
