-- 01, "Refusal numbers": the tests of each command, in the order of the table; the first that holds is given.
use Rattle.std.specs.Prelude.{Bool, false, not, ◌&&◌, ◌||◌, List, [], ◌∷◌, ℕ, suc, eqb, leb, ltb, length, if◌then◌else◌}
use Rattle.std.proofs.Math.Option.{Option, none, some}
use Rattle.machine.specs.Sizes.{key_count, session_count, row_count, value_max, step_max, time_max, number_max, value_at, staged_at}
use Rattle.machine.specs.Tables.{find, count, first, is_none}
use Rattle.machine.specs.Words.{CLOCK, ARG, LONG, NO-SESSION, SEALED, NOT-SEALED, NO-LEASE, KIND, AHEAD, FULL, ROOM, NUMBERS, INVALIDATE, REFRESH, INCREMENTAL, is_kind, is_operation}
use Rattle.machine.specs.Session.{is_sealed}
use Rattle.machine.specs.Decision.{decision, grants}
use Rattle.machine.specs.Sound.{lifetime}
use Rattle.machine.specs.State.{Value, Lease, Slot, no_session, session, nothing, staged, DROP, Row, no_row, row, State, free, free_row, on, kind_of, session_of, row_place, row_of, cached, lease_on}
use Rattle.machine.specs.declared.Refusal.{Refusal}
use Rattle.machine.specs.declared.Verdict.{Verdict}
use Rattle.machine.specs.declared.Command.{Command}
use Rattle.machine.specs.declared.Command.TheVariants.{Begin, Get, Fill, Quar, Stage, Delta, Validate, Done, Undo, Evict, Tick}

-- Who may have what

-- what is held by a row, or else by an I lease, by its place in the decision table: a row's kind and one, else 1 for an I lease, else 0
abbrev pub held_by : Row → Option Lease → ℕ
held_by r o = if free_row r then (if is_none o then 0 else 1) else suc (kind_of r)

-- what is held on a key: by the first row on it, or by its I lease
abbrev pub held_on : State → ℕ → ℕ
held_on s k = held_by (find (on k) no_row s.rows) (lease_on s k)

-- asked is 0 for I, or the kind
unfoldable pub decide : State → ℕ → ℕ → Verdict
decide s k asked = decision (held_on s k) asked

-- no I lease may be granted on the key
unfoldable pub blocked : State → ℕ → Bool
blocked s k = not (grants (decide s k 0))

-- What GET would answer HIT with: the value, and where it stands in the lent state

pub record Sight : Type 0 where
  pub at : ℕ
  pub value : Value

abbrev pub cached_sight : ℕ → Option Value → Option Sight
cached_sight k none = none
cached_sight k (some v) = some (record { at = value_at k; value = v })

-- by one's own row, at place i, on key k: its staged value; for kind 1 or DROP none; otherwise, and for anyone else, the cached value
abbrev pub row_sight : ℕ → ℕ → Row → Option Value → Option Sight
row_sight i k no_row c = cached_sight k c
row_sight i k (row n j d nothing) c = if eqb d INVALIDATE then none else cached_sight k c
row_sight i k (row n j d (staged v)) c = some (record { at = staged_at i; value = v })
row_sight i k (row n j d DROP) c = none

unfoldable pub sight : State → ℕ → ℕ → Option Sight
sight s n k = row_sight (row_place s n k) k (row_of s n k) (cached s k)

-- a GET by n would be answered LEASE
unfoldable pub would_lease : State → ℕ → ℕ → Bool
would_lease s n k = is_none (sight s n k) && free_row (row_of s n k) && not (blocked s k)

-- a QUAR by n would be answered GRANTED
unfoldable pub would_grant : State → ℕ → ℕ → ℕ → Bool
would_grant s n k kind = not (eqb (kind_of (row_of s n k)) kind) && grants (decide s k kind)

-- The conditions

abbrev pub bad_key : ℕ → Bool
bad_key k = leb key_count k

abbrev pub long : Value → Bool
long v = ltb value_max (length v)

abbrev pub not_live : State → ℕ → Bool
not_live s n = free (session_of s n)

abbrev pub sealed_slot : Slot → Bool
sealed_slot no_session = false
sealed_slot (session x) = is_sealed x

abbrev pub sealed_in : State → ℕ → Bool
sealed_in s n = sealed_slot (session_of s n)

abbrev pub count_in : Slot → ℕ
count_in no_session = 0
count_in (session x) = x.count

abbrev pub count_of : State → ℕ → ℕ
count_of s n = count_in (session_of s n)

abbrev pub sessions_full : State → Bool
sessions_full s = leb session_count (count (λ e. not (free e)) s.sessions)

abbrev pub rows_full : State → Bool
rows_full s = leb row_count (count (λ r. not (free_row r)) s.rows)

-- CLOCK
abbrev pub clock_refusal : State → ℕ → Bool × Refusal
clock_refusal s now = (ltb now s.head.clock || ltb time_max now, CLOCK)

-- NO SESSION to AHEAD, of STAGE and DELTA
abbrev pub staging_refusals : State → ℕ → ℕ → ℕ → ℕ → List (Bool × Refusal)
staging_refusals s n step k kind =
    (not_live s n, NO-SESSION)
    ∷ (sealed_in s n, SEALED)
    ∷ (free_row (row_of s n k), NO-LEASE)
    ∷ (not (eqb (kind_of (row_of s n k)) kind), KIND)
    ∷ (ltb (count_of s n) step, AHEAD)
    ∷ []

-- s is the state after expiry
unfoldable pub refusals : State → Command → Value → List (Bool × Refusal)
refusals s Begin v =
    (sessions_full s, FULL)
    ∷ (leb number_max s.head.next_session, NUMBERS)
    ∷ []
refusals s (Get n k) v =
    (bad_key k, ARG)
    ∷ (not (eqb n 0) && not_live s n, NO-SESSION)
    ∷ (would_lease s n k && leb number_max s.head.next_token, NUMBERS)
    ∷ []
refusals s (Fill t k) v =
    (bad_key k, ARG)
    ∷ (long v, LONG)
    ∷ []
refusals s (Quar n k kind) v =
    (bad_key k || not (is_kind kind), ARG)
    ∷ (not_live s n, NO-SESSION)
    ∷ (sealed_in s n, SEALED)
    ∷ (would_grant s n k kind && rows_full s, ROOM)
    ∷ []
refusals s (Stage n step k) v =
    (bad_key k || leb step_max step, ARG)
    ∷ (long v, LONG)
    ∷ staging_refusals s n step k REFRESH
refusals s (Delta n step k operation) v =
    (bad_key k || not (is_operation operation) || leb step_max step, ARG)
    ∷ (long v, LONG)
    ∷ staging_refusals s n step k INCREMENTAL
refusals s (Validate n m) v =
    (ltb step_max m, ARG)
    ∷ (not_live s n, NO-SESSION)
    ∷ (sealed_in s n && not (eqb m (count_of s n)), SEALED)
    ∷ []
refusals s (Done n) v =
    (not_live s n, NO-SESSION)
    ∷ (not (sealed_in s n), NOT-SEALED)
    ∷ []
refusals s (Undo n) v = (not_live s n, NO-SESSION) ∷ []
refusals s (Evict k) v = (bad_key k, ARG) ∷ []
refusals s Tick v = []

unfoldable pub refusal : State → ℕ → Command → Value → Option Refusal
refusal s now c v = first (clock_refusal s now ∷ refusals s c v)

-- START and SHOW

abbrev pub start_refusals : ℕ → ℕ → List (Bool × Refusal)
start_refusals read_life write_life = (not (lifetime read_life) || not (lifetime write_life), ARG) ∷ []

abbrev pub show_refusals : State → ℕ → ℕ → List (Bool × Refusal)
show_refusals s n k = (bad_key k, ARG) ∷ (not (eqb n 0) && not_live s n, NO-SESSION) ∷ []
