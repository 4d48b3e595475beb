-- The sizes and limits of document 01, and where the tables of the layout and the fields of their records stand.
use Rattle.std.specs.Prelude.{ℕ, ◌+◌, ◌*◌}

-- 01, "The state and its numbers"
abbrev pub key_count : ℕ
key_count = 256

abbrev pub session_count : ℕ
session_count = 128

abbrev pub row_count : ℕ
row_count = 384

abbrev pub value_max : ℕ
value_max = 64

-- the count of staging steps goes from 0 to this
abbrev pub step_max : ℕ
step_max = 1000

-- a lifetime goes from 1 to this, in ms
abbrev pub life_max : ℕ
life_max = 600000

-- 2^48 - 1, the last time
abbrev pub time_max : ℕ
time_max = 281474976710655

-- 2^32 - 1, the largest next number
abbrev pub number_max : ℕ
number_max = 4294967295

-- the layout: the header, 256 keys, 384 rows, 128 sessions, zero to the end
abbrev pub state_size : ℕ
state_size = 65536

abbrev pub head_size : ℕ
head_size = 64

abbrev pub keys_from : ℕ
keys_from = head_size

abbrev pub key_width : ℕ
key_width = 80

abbrev pub rows_from : ℕ
rows_from = 20544

abbrev pub row_width : ℕ
row_width = 72

abbrev pub sessions_from : ℕ
sessions_from = 48192

abbrev pub session_width : ℕ
session_width = 16

abbrev pub rest_from : ℕ
rest_from = 50240

abbrev pub rest_size : ℕ
rest_size = 15296

-- where the fields of a record stand in it. The header: its clock is first
abbrev pub read_life_field : ℕ
read_life_field = 8

abbrev pub write_life_field : ℕ
write_life_field = 12

abbrev pub next_session_field : ℕ
next_session_field = 16

abbrev pub next_token_field : ℕ
next_token_field = 20

-- a key: first whether a value is there
abbrev pub key_length_field : ℕ
key_length_field = 1

abbrev pub key_token_field : ℕ
key_token_field = 4

abbrev pub key_until_field : ℕ
key_until_field = 8

abbrev pub key_value_field : ℕ
key_value_field = 16

-- token and deadline
abbrev pub lease_width : ℕ
lease_width = 12

-- a row: its session is first
abbrev pub row_key_field : ℕ
row_key_field = 4

abbrev pub row_kind_field : ℕ
row_kind_field = 5

abbrev pub row_staged_field : ℕ
row_staged_field = 6

abbrev pub row_length_field : ℕ
row_length_field = 7

abbrev pub row_value_field : ℕ
row_value_field = 8

-- a session: its number is first
abbrev pub session_life_field : ℕ
session_life_field = 4

abbrev pub session_steps_field : ℕ
session_steps_field = 6

abbrev pub session_until_field : ℕ
session_until_field = 8

-- where the cached value of key k stands, and the value staged in row i
abbrev pub value_at : ℕ → ℕ
value_at k = keys_from + k * key_width + key_value_field

abbrev pub staged_at : ℕ → ℕ
staged_at i = rows_from + i * row_width + row_value_field
