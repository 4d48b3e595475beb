-- 01, "A state is well formed if all this holds", as facts with names: what every command keeps under no rule of the clients (`Orderly`), and
-- the rest, table by table, at a time that the deadlines are measured by. At the state's own clock this is what `sound` tests (`sound_means`).
use Rattle.std.specs.Prelude.{◌≡◌, ◌⊎◌, List, ℕ, ◌+◌, ◌≤◌, ◌<◌, length as size, get_or}
use Rattle.std.proofs.Math.Option.{some}
use Rattle.lent.specs.Bytes.{Bytes}
use Rattle.machine.specs.Sizes.{key_count, session_count, row_count, value_max, step_max, life_max, time_max, number_max}
use Rattle.machine.specs.Words.{INVALIDATE, REFRESH, INCREMENTAL}
use Rattle.machine.specs.State.{Value, Head, Lease, Key, blank, Slot, no_session, session, Staged, nothing, staged, DROP, Row, no_row, row, State, lease_on, session_at, row_at}
use Rattle.machine.specs.declared.Life.{Life}
use Rattle.machine.specs.declared.Session.{Session}

-- from low to high
abbrev pub Within : ℕ → ℕ → ℕ → Type 0
Within low high n = (low ≤ n) × (n ≤ high)

pub record Orderly (s : State) : Type 0 where
  -- a lease's token was given, and no row is on its key
  pub leases : (k : ℕ) (l : Lease) → lease_on s k ≡ some l → (l.token < s.head.next_token) × ((i n d : ℕ) (v : Staged) → row_at s i ≡ row n k d v → ⊥)
  -- a session's number was given, and to it alone
  pub numbers : (i : ℕ) (x : Session) → session_at s i ≡ session x → x.number < s.head.next_session
  pub unique : (i j : ℕ) (x y : Session) → session_at s i ≡ session x → session_at s j ≡ session y → x.number ≡ y.number → i ≡ j
  -- a row's kind; two rows on one key are invalidations, which stage nothing
  pub kinds : (i n k d : ℕ) (v : Staged) → row_at s i ≡ row n k d v → Within INVALIDATE INCREMENTAL d
  pub alone : (i j n m k d e : ℕ) (u v : Staged) → row_at s i ≡ row n k d u → row_at s j ≡ row m k e v → (d ≡ INVALIDATE) ⊎ (i ≡ j)
  pub plain : (i n k : ℕ) (v : Value) → row_at s i ≡ row n k INVALIDATE (staged v) → ⊥

-- 0 to 64 bytes
pub record Fine (v : Value) : Type 0 where
  pub short : size v ≤ value_max
  pub bytes : Bytes v

-- the token is not 0, and the deadline is not past `until`
pub record LeaseFits (until : ℕ) (l : Lease) : Type 0 where
  pub positive : 1 ≤ l.token
  pub deadline : l.until ≤ until

-- the number is not 0, the count is 0 to 1,000, and a deadline is not past `until`
pub record SessionFits (until : ℕ) (x : Session) : Type 0 where
  pub positive : 1 ≤ x.number
  pub steps : x.count ≤ step_max
  pub deadline : (t : ℕ) → x.life ≡ Life.Open t → t ≤ until

-- only kind 3 stages DROP; kind 1 stages nothing
abbrev pub StagedFits : ℕ → Staged → Type 0
StagedFits d nothing = Unit {0}
StagedFits d (staged v) = (REFRESH ≤ d) × Fine v
StagedFits d DROP = d ≡ INCREMENTAL

pub record RowFits (k d : ℕ) (u : Staged) : Type 0 where
  pub key : k < key_count
  pub what : StagedFits d u

-- clock, lifetimes and next numbers
pub record HeadFits (now : ℕ) (h : Head) : Type 0 where
  pub time : now ≤ time_max
  pub read_life : Within 1 life_max h.read_life
  pub write_life : Within 1 life_max h.write_life
  pub next_session : Within 1 number_max h.next_session
  pub next_token : Within 1 number_max h.next_token

pub record KeysFit (until : ℕ) (ks : List Key) : Type 0 where
  pub length : size ks ≡ key_count
  pub values : (k : ℕ) {v : Value} → (get_or ks k blank).value ≡ some v → Fine v
  pub leases : (k : ℕ) {l : Lease} → (get_or ks k blank).lease ≡ some l → LeaseFits until l
  pub distinct : (k j : ℕ) {l m : Lease} → (get_or ks k blank).lease ≡ some l → (get_or ks j blank).lease ≡ some m → l.token ≡ m.token → k ≡ j

pub record SessionsFit (until : ℕ) (l : List Slot) : Type 0 where
  pub length : size l ≡ session_count
  pub each : (i : ℕ) {x : Session} → get_or l i no_session ≡ session x → SessionFits until x

pub record RowsFit (rs : List Row) : Type 0 where
  pub length : size rs ≡ row_count
  pub each : (i : ℕ) {n k d : ℕ} {u : Staged} → get_or rs i no_row ≡ row n k d u → RowFits k d u
  -- no session has two rows on one key
  pub once : (i j : ℕ) {n k d c : ℕ} {u v : Staged} → get_or rs i no_row ≡ row n k d u → get_or rs j no_row ≡ row n k c v → i ≡ j

-- a session of number n is live
pub record LiveAs (l : List Slot) (n : ℕ) : Type 0 where
  pub place : ℕ
  pub live : Session
  pub is : get_or l place no_session ≡ session live
  pub number : live.number ≡ n

pub record WellFormed (s : State) (now : ℕ) : Type 0 where
  pub orderly : Orderly s
  pub head : HeadFits now s.head
  pub keys : KeysFit (now + s.head.read_life) s.keys
  pub sessions : SessionsFit (now + s.head.write_life) s.sessions
  pub rows : RowsFit s.rows
  -- each Q row names a live session
  pub live : (i : ℕ) {n k d : ℕ} {u : Staged} → row_at s i ≡ row n k d u → LiveAs s.sessions n
