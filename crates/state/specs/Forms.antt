-- What the check tests of the bytes, part by part in its order. A part is formed if it is the encoding of what it decodes to and that is sound;
-- a table fits if its records are formed and agree with those before them and with the tables before.
-- x is a record's bytes, s the whole state's; `limit` is the clock plus a lifetime, and `next` the next number to give.
use Rattle.std.specs.Prelude.{ℕ, ◌+◌, ◌-◌, ◌*◌, Bool, ◌&&◌, List, get_or, eqb, leb, ltb, if◌then◌else◌}
use Rattle.lent.specs.Bytes.{le16, le32, le64, win}
use Rattle.lent.specs.Tables.{every, all_zero}
use Rattle.machine.specs.Sizes.{key_count, session_count, row_count, value_max, step_max, keys_from, key_width, rows_from, row_width, sessions_from, session_width, rest_from, rest_size}
use Rattle.machine.specs.State.{Head}
use Rattle.machine.specs.Words.{REFRESH, INCREMENTAL, is_kind}
use Rattle.machine.specs.Sound.{head_sound, distinct}
use Rattle.layout.specs.Layout.{dec_head}
use Rattle.joins.specs.Joins.{tokens, session_numbers, join_ok}

-- One record

unfoldable pub head_formed : List ℕ → Bool
head_formed s = head_sound (dec_head s) && all_zero (win s 24 40)

-- a value of n bytes in the 64 at `at`, zero behind it
unfoldable pub fitted : List ℕ → ℕ → ℕ → Bool
fitted x at n = leb n value_max && all_zero (win x (at + n) (value_max - n))

-- no value, or the mark 1, its length and two zeros
unfoldable pub value_formed : List ℕ → Bool
value_formed x =
    if eqb (le32 x 0) 0 then all_zero (win x 16 value_max)
    else eqb (get_or x 0 0) 1 && (eqb (le16 x 2) 0 && fitted x 16 (get_or x 1 0))

unfoldable pub lease_formed : ℕ → ℕ → List ℕ → Bool
lease_formed limit next x = if eqb (le32 x 4) 0 then eqb (le64 x 8) 0 else ltb (le32 x 4) next && leb (le64 x 8) limit

unfoldable pub key_formed : ℕ → ℕ → List ℕ → Bool
key_formed limit next x = value_formed x && lease_formed limit next x

-- what a row of kind d stages: a value, DROP, or nothing
unfoldable pub staged_formed : ℕ → List ℕ → Bool
staged_formed d x =
    if eqb (get_or x 6 0) 1 then leb REFRESH d && fitted x 8 (get_or x 7 0)
    else if eqb (get_or x 6 0) 2 then eqb d INCREMENTAL && all_zero (win x 7 (1 + value_max))
    else eqb (get_or x 6 0) 0 && all_zero (win x 7 (1 + value_max))

unfoldable pub row_formed : List ℕ → Bool
row_formed x = if eqb (le32 x 0) 0 then all_zero x else is_kind (get_or x 5 0) && staged_formed (get_or x 5 0) x

-- sealed with no deadline, or open
unfoldable pub life_formed : ℕ → List ℕ → Bool
life_formed limit x = if eqb (get_or x 4 0) 2 then eqb (le64 x 8) 0 else eqb (get_or x 4 0) 1 && leb (le64 x 8) limit

unfoldable pub session_formed : ℕ → ℕ → List ℕ → Bool
session_formed limit next x =
    if eqb (le32 x 0) 0 then all_zero x
    else ltb (le32 x 0) next && (eqb (get_or x 5 0) 0 && (leb (le16 x 6) step_max && life_formed limit x))

-- The tables

abbrev pub read_limit : Head → ℕ
read_limit h = h.clock + h.read_life

abbrev pub write_limit : Head → ℕ
write_limit h = h.clock + h.write_life

unfoldable pub keys_formed : List ℕ → Bool
keys_formed s = every (λ k. key_formed (read_limit (dec_head s)) (dec_head s).next_token (win s (keys_from + k * key_width) key_width)) key_count

unfoldable pub rows_formed : List ℕ → Bool
rows_formed s = every (λ i. row_formed (win s (rows_from + i * row_width) row_width)) row_count

unfoldable pub sessions_formed : List ℕ → Bool
sessions_formed s = every (λ j. session_formed (write_limit (dec_head s)) (dec_head s).next_session (win s (sessions_from + j * session_width) session_width)) session_count

-- tokens are distinct
unfoldable pub keys_fit : List ℕ → Bool
keys_fit s = keys_formed s && distinct (tokens s) key_count

-- session numbers are distinct
unfoldable pub sessions_fit : List ℕ → Bool
sessions_fit s = sessions_formed s && distinct (session_numbers s) session_count

-- each row agrees with the sessions, its key and the rows before it
unfoldable pub rows_fit : List ℕ → Bool
rows_fit s = rows_formed s && every (join_ok s) row_count

unfoldable pub tables_fit : List ℕ → Bool
tables_fit s = all_zero (win s rest_from rest_size) && (sessions_fit s && (keys_fit s && rows_fit s))

unfoldable pub state_formed : List ℕ → Bool
state_formed s = head_formed s && tables_fit s
