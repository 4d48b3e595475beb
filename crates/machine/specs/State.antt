-- 01, "The state and its numbers": what the lent buffer holds, the fresh state, and what is looked up in a state.
use Rattle.std.specs.Prelude.{Bool, true, false, ◌&&◌, List, ℕ, eqb, get_or, replicate}
use Rattle.std.proofs.Math.Option.{Option, none}
use Rattle.machine.specs.Sizes.{key_count, session_count, row_count}
use Rattle.machine.specs.Tables.{place, find}
use Rattle.machine.specs.declared.Session.{Session}

-- bytes
abbrev pub Value : Type 0
Value = List ℕ

-- clock (of the last accepted command), two lifetimes, and the next numbers to give
pub record Head : Type 0 where
  pub clock : ℕ
  pub read_life : ℕ
  pub write_life : ℕ
  pub next_session : ℕ
  pub next_token : ℕ

-- an I lease: token and deadline
pub record Lease : Type 0 where
  pub token : ℕ
  pub until : ℕ

-- a value or absent, and at most one I lease
pub record Key : Type 0 where
  pub value : Option Value
  pub lease : Option Lease

-- a place of the session table
pub data Slot : Type 0 where
  no_session : Slot
  session : Session → Slot

-- what is staged: nothing, a value, or DROP
pub data Staged : Type 0 where
  nothing : Staged
  staged : Value → Staged
  DROP : Staged

-- a place of the table of Q rows: session, key, kind, and what is staged
pub data Row : Type 0 where
  no_row : Row
  row : ℕ → ℕ → ℕ → Staged → Row

pub record State : Type 0 where
  pub head : Head
  pub keys : List Key
  pub sessions : List Slot
  pub rows : List Row

abbrev pub blank : Key
blank = record { value = none; lease = none }

-- what START makes, with its lifetimes
unfoldable pub fresh : ℕ → ℕ → State
fresh read_life write_life = record {
  head = record { clock = 0; read_life = read_life; write_life = write_life; next_session = 1; next_token = 1 };
  keys = replicate key_count blank;
  sessions = replicate session_count no_session;
  rows = replicate row_count no_row;
}

-- a free place
abbrev pub free : Slot → Bool
free no_session = true
free (session x) = false

abbrev pub free_row : Row → Bool
free_row no_row = true
free_row (row n k d u) = false

-- the session has number n
abbrev pub numbered : ℕ → Slot → Bool
numbered n no_session = false
numbered n (session x) = eqb x.number n

-- the row is on key k; of session n; both
abbrev pub on : ℕ → Row → Bool
on k no_row = false
on k (row m j d u) = eqb j k

abbrev pub of : ℕ → Row → Bool
of n no_row = false
of n (row m j d u) = eqb m n

abbrev pub of_on : ℕ → ℕ → Row → Bool
of_on n k r = of n r && on k r

abbrev pub kind_of : Row → ℕ
kind_of no_row = 0
kind_of (row n k d u) = d

abbrev pub staged_in : Row → Staged
staged_in no_row = nothing
staged_in (row n k d u) = u

-- the session of number n, found by its number; the row of session n on key k
abbrev pub session_place : State → ℕ → ℕ
session_place s n = place (numbered n) s.sessions

abbrev pub session_of : State → ℕ → Slot
session_of s n = find (numbered n) no_session s.sessions

abbrev pub row_place : State → ℕ → ℕ → ℕ
row_place s n k = place (of_on n k) s.rows

abbrev pub row_of : State → ℕ → ℕ → Row
row_of s n k = find (of_on n k) no_row s.rows

abbrev pub key_of : State → ℕ → Key
key_of s k = get_or s.keys k blank

abbrev pub cached : State → ℕ → Option Value
cached s k = (key_of s k).value

abbrev pub lease_on : State → ℕ → Option Lease
lease_on s k = (key_of s k).lease

-- by place
abbrev pub session_at : State → ℕ → Slot
session_at s i = get_or s.sessions i no_session

abbrev pub row_at : State → ℕ → Row
row_at s i = get_or s.rows i no_row
