-- The layout (docs/LAYOUT.md): a state to its 65,536 bytes, and what bytes are read as, any bytes.
use Rattle.std.specs.Prelude.{ℕ, ◌-◌, List, [], ◌∷◌, ◌++◌, length, get_or, drop, eqb, if◌then◌else◌}
use Rattle.std.proofs.Math.Option.{Option, none, some}
use Rattle.lent.specs.Bytes.{le16, bytes16, le32, bytes32, le64, bytes64, win, zeros}
use Rattle.lent.specs.Tables.{tab_of, read_tab}
use Rattle.machine.specs.Sizes.{key_count, session_count, row_count, value_max, keys_from, key_width, rows_from, row_width, sessions_from, session_width, rest_size, lease_width}
use Rattle.machine.specs.Sizes.{read_life_field, write_life_field, next_session_field, next_token_field, key_length_field, key_token_field, key_until_field, key_value_field}
use Rattle.machine.specs.Sizes.{row_key_field, row_kind_field, row_staged_field, row_length_field, row_value_field, session_life_field, session_steps_field, session_until_field}
use Rattle.machine.specs.State.{Value, Head, Lease, Key, Slot, no_session, session, Staged, nothing, staged, DROP, Row, no_row, row, State}
use Rattle.machine.specs.declared.Life.{Life}
use Rattle.machine.specs.declared.Session.{Session}

-- To bytes

-- a value in its 64 bytes, zero behind it
abbrev pub padded : Value → List ℕ
padded v = v ++ zeros (value_max - length v)

-- the header: clock, read lifetime, write lifetime, next session, next token, zero
unfoldable pub enc_head : Head → List ℕ
enc_head h = bytes64 h.clock ++ (bytes32 h.read_life ++ (bytes32 h.write_life ++ (bytes32 h.next_session ++ (bytes32 h.next_token ++ zeros 40))))

-- 1 if a value is there, its length, two zeros
abbrev pub value_mark : Option Value → List ℕ
value_mark none = 0 ∷ 0 ∷ 0 ∷ 0 ∷ []
value_mark (some v) = 1 ∷ length v ∷ 0 ∷ 0 ∷ []

abbrev pub value_bytes : Option Value → List ℕ
value_bytes none = zeros value_max
value_bytes (some v) = padded v

-- token and deadline, both zero where there is no I lease
abbrev pub lease_bytes : Option Lease → List ℕ
lease_bytes none = zeros lease_width
lease_bytes (some l) = bytes32 l.token ++ bytes64 l.until

unfoldable pub enc_key : Key → List ℕ
enc_key k = value_mark k.value ++ (lease_bytes k.lease ++ value_bytes k.value)

-- 0 nothing, 1 a value, 2 DROP; its length; the value
abbrev pub staged_bytes : Staged → List ℕ
staged_bytes nothing = 0 ∷ zeros 65
staged_bytes (staged v) = 1 ∷ length v ∷ padded v
staged_bytes DROP = 2 ∷ zeros 65

-- a row: session, key, kind, what is staged
unfoldable pub enc_row : Row → List ℕ
enc_row no_row = zeros row_width
enc_row (row n k d u) = bytes32 n ++ (k ∷ d ∷ staged_bytes u)

-- 1 open, 2 sealed; the deadline, zero if sealed
abbrev pub life_mark : Life → ℕ
life_mark (Life.Open until) = 1
life_mark Life.Sealed = 2

abbrev pub life_time : Life → ℕ
life_time (Life.Open until) = until
life_time Life.Sealed = 0

-- a session: number, mark, zero, count, deadline
abbrev pub session_bytes : Session → List ℕ
session_bytes x = bytes32 x.number ++ (life_mark x.life ∷ 0 ∷ (bytes16 x.count ++ bytes64 (life_time x.life)))

unfoldable pub enc_session : Slot → List ℕ
enc_session no_session = zeros session_width
enc_session (session x) = session_bytes x

unfoldable pub encode : State → List ℕ
encode s = enc_head s.head ++ (tab_of enc_key s.keys ++ (tab_of enc_row s.rows ++ (tab_of enc_session s.sessions ++ zeros rest_size)))

-- From bytes

unfoldable pub dec_head : List ℕ → Head
dec_head x = record { clock = le64 x 0; read_life = le32 x read_life_field; write_life = le32 x write_life_field; next_session = le32 x next_session_field; next_token = le32 x next_token_field }

abbrev pub dec_value : List ℕ → Option Value
dec_value x = if eqb (get_or x 0 0) 1 then some (win x key_value_field (get_or x key_length_field 0)) else none

abbrev pub dec_lease : List ℕ → Option Lease
dec_lease x = if eqb (le32 x key_token_field) 0 then none else some (record { token = le32 x key_token_field; until = le64 x key_until_field })

unfoldable pub dec_key : List ℕ → Key
dec_key x = record { value = dec_value x; lease = dec_lease x }

abbrev pub dec_staged : List ℕ → Staged
dec_staged x = if eqb (get_or x row_staged_field 0) 1 then staged (win x row_value_field (get_or x row_length_field 0)) else if eqb (get_or x row_staged_field 0) 2 then DROP else nothing

unfoldable pub dec_row : List ℕ → Row
dec_row x = if eqb (le32 x 0) 0 then no_row else row (le32 x 0) (get_or x row_key_field 0) (get_or x row_kind_field 0) (dec_staged x)

abbrev pub dec_life : List ℕ → Life
dec_life x = if eqb (get_or x session_life_field 0) 2 then Life.Sealed else Life.Open (le64 x session_until_field)

abbrev pub session_from : List ℕ → Session
session_from x = record { number = le32 x 0; life = dec_life x; count = le16 x session_steps_field }

unfoldable pub dec_session : List ℕ → Slot
dec_session x = if eqb (le32 x 0) 0 then no_session else session (session_from x)

unfoldable pub decode : List ℕ → State
decode b = record {
  head = dec_head b;
  keys = read_tab dec_key key_width key_count (drop keys_from b);
  sessions = read_tab dec_session session_width session_count (drop sessions_from b);
  rows = read_tab dec_row row_width row_count (drop rows_from b);
}
