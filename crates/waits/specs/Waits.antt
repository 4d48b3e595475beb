-- What one row adds to the wait on a key.
use Rattle.std.specs.Prelude.{ℕ, eqb, if◌then◌else◌}
use Rattle.std.proofs.Math.Option.{Option, some}
use Rattle.machine.specs.State.{Row, no_row, row, State, session_of}
use Rattle.machine.specs.Effects.{slot_end}

-- the deadline of its session, none if that is sealed; 0, which is past, for a row that is not on key k
abbrev pub row_end : State → ℕ → Row → Option ℕ
row_end s k no_row = some 0
row_end s k (row n j d u) = if eqb j k then slot_end (session_of s n) else some 0
