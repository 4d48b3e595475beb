-- Which state a lent buffer holds: the one whose bytes it has. A state fits its bytes if they say all of it: its tables have their lengths,
-- each number lies within its bytes, each value within its 64, and no session, row or lease has the number 0, which says that there is none.
-- A key, a kind and the bytes of a value stand as they are.
use Rattle.std.specs.Prelude.{ℕ, ◌≤◌, ◌<◌, ◌^◌, ◌≡◌, List, length}
use Rattle.std.proofs.Math.Option.{Option, none, some}
use Rattle.lent.specs.Tables.{Each}
use Rattle.machine.specs.Sizes.{key_count, session_count, row_count, value_max}
use Rattle.machine.specs.State.{Value, Head, Lease, Key, Slot, no_session, session, Staged, nothing, staged, DROP, Row, no_row, row, State}
use Rattle.machine.specs.declared.Session.{Session}
use Rattle.layout.specs.Layout.{life_time, encode}

pub record HeadFits (h : Head) : Type 0 where
  pub clock : h.clock < 2 ^ 64
  pub read_life : h.read_life < 2 ^ 32
  pub write_life : h.write_life < 2 ^ 32
  pub next_session : h.next_session < 2 ^ 32
  pub next_token : h.next_token < 2 ^ 32

abbrev pub ValueFits : Option Value → Type 0
ValueFits none = Unit
ValueFits (some v) = length v ≤ value_max

pub record Granted (l : Lease) : Type 0 where
  pub given : 1 ≤ l.token
  pub token : l.token < 2 ^ 32
  pub until : l.until < 2 ^ 64

abbrev pub LeaseFits : Option Lease → Type 0
LeaseFits none = Unit
LeaseFits (some l) = Granted l

pub record KeyFits (k : Key) : Type 0 where
  pub value : ValueFits k.value
  pub lease : LeaseFits k.lease

pub record Live (x : Session) : Type 0 where
  pub given : 1 ≤ x.number
  pub number : x.number < 2 ^ 32
  pub count : x.count < 2 ^ 16
  pub until : life_time x.life < 2 ^ 64

abbrev pub SlotFits : Slot → Type 0
SlotFits no_session = Unit
SlotFits (session x) = Live x

abbrev pub StagedFits : Staged → Type 0
StagedFits nothing = Unit
StagedFits (staged v) = length v ≤ value_max
StagedFits DROP = Unit

pub record Taken (n : ℕ) (u : Staged) : Type 0 where
  pub given : 1 ≤ n
  pub session : n < 2 ^ 32
  pub staged : StagedFits u

abbrev pub RowFits : Row → Type 0
RowFits no_row = Unit
RowFits (row n k d u) = Taken n u

pub record Fits (s : State) : Type 0 where
  pub head : HeadFits s.head
  pub keys : length s.keys ≡ key_count
  pub sessions : length s.sessions ≡ session_count
  pub rows : length s.rows ≡ row_count
  pub each_key : Each KeyFits s.keys
  pub each_session : Each SlotFits s.sessions
  pub each_row : Each RowFits s.rows

-- the bytes b hold the state s
pub record Holds (b : List ℕ) (s : State) : Type 0 where
  pub bytes : b ≡ encode s
  pub fits : Fits s
