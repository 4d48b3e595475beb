-- 01, "A state is well formed if all this holds": each condition with its name.
use Rattle.std.specs.Prelude.{ℕ, ◌+◌, Bool, true, not, ◌&&◌, length, get_or, eqb, leb, ltb, if◌then◌else◌}
use Rattle.std.proofs.Math.Option.{Option, none, some}
use Rattle.lent.specs.Tables.{every, some as at_some}
use Rattle.machine.specs.Sizes.{key_count, session_count, row_count, value_max, step_max, life_max, time_max, number_max}
use Rattle.machine.specs.Words.{INVALIDATE, INCREMENTAL, within, is_kind, REFRESH}
use Rattle.machine.specs.State.{Value, Head, Lease, Key, Slot, no_session, session, Staged, nothing, staged, DROP, Row, no_row, row, State, key_of, session_at, row_at}
use Rattle.machine.specs.declared.Life.{Life}

-- The numbers of the state

-- clock at most 2^48 - 1; lifetimes 1 to 600,000; next numbers 1 to 2^32 - 1
abbrev pub clock_sound : Head → Bool
clock_sound h = leb h.clock time_max

abbrev pub lifetime : ℕ → Bool
lifetime n = within 1 life_max n

abbrev pub next_sound : ℕ → Bool
next_sound n = within 1 number_max n

unfoldable pub head_sound : Head → Bool
head_sound h =
    clock_sound h
    && (lifetime h.read_life
    && (lifetime h.write_life
    && (next_sound h.next_session
    && next_sound h.next_token)))

-- One record alone

-- 0 to 64 bytes
abbrev pub value_sound : Value → Bool
value_sound v = leb (length v) value_max && every (λ i. ltb (get_or v i 0) 256) (length v)

abbrev pub cached_sound : Option Value → Bool
cached_sound none = true
cached_sound (some v) = value_sound v

-- non-zero and below the next number
abbrev pub given : ℕ → ℕ → Bool
given next n = leb 1 n && ltb n next

-- a token was given, and its deadline is not past the clock plus the read lifetime
abbrev pub lease_sound : Head → Option Lease → Bool
lease_sound h none = true
lease_sound h (some l) = given h.next_token l.token && leb l.until (h.clock + h.read_life)

unfoldable pub key_sound : Head → Key → Bool
key_sound h k = cached_sound k.value && lease_sound h k.lease

-- no deadline is past the clock plus the write lifetime
abbrev pub life_sound : Head → Life → Bool
life_sound h (Life.Open until) = leb until (h.clock + h.write_life)
life_sound h Life.Sealed = true

-- a number was given, the count is 0 to 1,000
unfoldable pub session_sound : Head → Slot → Bool
session_sound h no_session = true
session_sound h (session x) = given h.next_session x.number && (leb x.count step_max && life_sound h x.life)

-- only kind 3 stages DROP; kind 1 stages nothing
abbrev pub staged_sound : ℕ → Staged → Bool
staged_sound d nothing = true
staged_sound d (staged v) = leb REFRESH d && value_sound v
staged_sound d DROP = eqb d INCREMENTAL

-- a session number that is not 0, a key below 256, a kind 1 to 3
unfoldable pub row_sound : Row → Bool
row_sound no_row = true
row_sound (row n k d u) = leb 1 n && (ltb k key_count && (is_kind d && staged_sound d u))

-- What joins records

abbrev pub token_in : Option Lease → ℕ
token_in none = 0
token_in (some l) = l.token

abbrev pub number_in : Slot → ℕ
number_in no_session = 0
number_in (session x) = x.number

abbrev pub number_at : State → ℕ → ℕ
number_at s j = number_in (session_at s j)

abbrev pub token_at : State → ℕ → ℕ
token_at s k = token_in (key_of s k).lease

-- of n numbers, each that is not 0 differs from each before it
unfoldable pub new_at : (ℕ → ℕ) → ℕ → Bool
new_at f i = if eqb (f i) 0 then true else every (λ j. not (eqb (f j) (f i))) i

unfoldable pub distinct : (ℕ → ℕ) → ℕ → Bool
distinct f n = every (new_at f) n

-- session numbers and tokens are distinct
unfoldable pub numbers_distinct : State → Bool
numbers_distinct s = distinct (number_at s) session_count

unfoldable pub tokens_distinct : State → Bool
tokens_distinct s = distinct (token_at s) key_count

-- each Q row names a live session
abbrev pub live_row : State → Row → Bool
live_row s no_row = true
live_row s (row n k d u) = at_some (λ j. eqb (number_at s j) n) session_count

unfoldable pub rows_live : State → Bool
rows_live s = every (λ i. live_row s (row_at s i)) row_count

-- two rows: not of one session on one key
abbrev pub once : Row → Row → Bool
once no_row r = true
once (row m j e u) no_row = true
once (row m j e u) (row n k d v) = not (eqb m n && eqb j k)

-- no session has two rows on one key
unfoldable pub rows_once : State → Bool
rows_once s = every (λ i. every (λ j. once (row_at s j) (row_at s i)) i) row_count

-- two rows: on one key only if both are of kind 1
abbrev pub shares : Row → Row → Bool
shares no_row r = true
shares (row m j e u) no_row = true
shares (row m j e u) (row n k d v) = if eqb j k then eqb e INVALIDATE && eqb d INVALIDATE else true

-- rows of kinds 2 and 3 are alone on their key
unfoldable pub rows_alone : State → Bool
rows_alone s = every (λ i. every (λ j. shares (row_at s j) (row_at s i)) i) row_count

abbrev pub leaseless : State → Row → Bool
leaseless s no_row = true
leaseless s (row n k d u) = eqb (token_at s k) 0

-- a key with a Q row has no I lease
unfoldable pub rows_leaseless : State → Bool
rows_leaseless s = every (λ i. leaseless s (row_at s i)) row_count

unfoldable pub joined : State → Bool
joined s =
    numbers_distinct s
    && (tokens_distinct s
    && (rows_live s
    && (rows_once s
    && (rows_alone s
    && rows_leaseless s))))

-- 256 keys, 128 sessions, 384 Q rows
unfoldable pub sized : State → Bool
sized s = eqb (length s.keys) key_count && (eqb (length s.sessions) session_count && eqb (length s.rows) row_count)

unfoldable pub sound : State → Bool
sound s =
    sized s
    && (head_sound s.head
    && (every (λ k. key_sound s.head (key_of s k)) key_count
    && (every (λ i. row_sound (row_at s i)) row_count
    && (every (λ j. session_sound s.head (session_at s j)) session_count
    && joined s))))
