-- How many bytes each record takes, and all of them: a value is padded to its 64, and every other part has a fixed width.
use mathlib.Core.Path.{◌≡◌, refl, ◌∙◌}
use mathlib.Core.List.{List}
use mathlib.Core.Option.{Option, none, some}
use Prim.Native.Nat.{ℕ, ◌+◌, ◌*◌, ◌≤◌}
use native.Mathlib.Omega.{arith}
use lib.ListN.{length, length-append, length-replicate}
use Rattle.lent.specs.Tables.{Each, tab_of}
use Rattle.lent.proofs.Tables.{each_map, length_tab}
use Rattle.machine.specs.Sizes.{key_count, session_count, row_count, value_max, state_size, head_size, key_width, row_width, session_width, key_token_field, lease_width}
use Rattle.machine.specs.State.{Value, Head, Lease, Key, Slot, no_session, session, Staged, nothing, staged, DROP, Row, no_row, row, State}
use Rattle.layout.specs.Layout.{padded, enc_head, value_mark, value_bytes, lease_bytes, enc_key, staged_bytes, enc_row, enc_session, encode}
use Rattle.layout.specs.Holds.{ValueFits, KeyFits, SlotFits, StagedFits, RowFits, Fits}

pub length-padded : (v : Value) → length v ≤ value_max → length (padded v) ≡ value_max
length-padded v h = simp (length-append, length-replicate) (omega arith)

pub length_head : (h : Head) → length (enc_head h) ≡ head_size
unfolding enc_head
length_head h = refl

pub length-mark : (o : Option Value) → length (value_mark o) ≡ key_token_field
length-mark none = refl
length-mark (some v) = refl

pub length_lease : (o : Option Lease) → length (lease_bytes o) ≡ lease_width
length_lease none = refl
length_lease (some l) = refl

pub length_value : (o : Option Value) → ValueFits o → length (value_bytes o) ≡ value_max
length_value none f = refl
length_value (some v) f = length-padded v f

pub length_key : (k : Key) → KeyFits k → length (enc_key k) ≡ key_width
unfolding enc_key
length_key k f =
    simp (length-append, length-mark k.value, length_lease k.lease, length_value k.value f.value)

pub length_staged : (u : Staged) → StagedFits u → length (staged_bytes u) ≡ value_max + 2
length_staged nothing f = refl
length_staged (staged v) f = rw (length-padded v f)
length_staged DROP f = refl

pub length_row : (r : Row) → RowFits r → length (enc_row r) ≡ row_width
unfolding enc_row
length_row no_row f = refl
length_row (row n k d u) f = rw (length_staged u f.staged)

pub length_session : (e : Slot) → length (enc_session e) ≡ session_width
unfolding enc_session
length_session no_session = refl
length_session (session x) = refl

-- ---- the tables, and the state

-- n records of w bytes each
module _ {A : Type 0} (P : A → Type 0) (enc : A → List ℕ) (w : ℕ) (wide : (x : A) → P x → length (enc x) ≡ w) where
  length_table : (xs : List A) (n : ℕ) → Each P xs → length xs ≡ n → length (tab_of enc xs) ≡ n * w
  length_table xs n e l = length_tab enc w xs (each_map P (λ x. length (enc x) ≡ w) xs wide e) ∙ rw l

module _ (s : State) (f : Fits s) where
  pub length_keys : length (tab_of enc_key s.keys) ≡ key_count * key_width
  length_keys = length_table KeyFits enc_key key_width length_key s.keys key_count f.each_key f.keys

  pub length_rows : length (tab_of enc_row s.rows) ≡ row_count * row_width
  length_rows = length_table RowFits enc_row row_width length_row s.rows row_count f.each_row f.rows

  length_sessions : length (tab_of enc_session s.sessions) ≡ session_count * session_width
  length_sessions = length_table SlotFits enc_session session_width (λ e p. length_session e) s.sessions session_count f.each_session f.sessions

  pub length-encode : length (encode s) ≡ state_size
  unfolding encode
  length-encode =
      simp (length-append, length_head s.head, length_keys, length_rows, length_sessions, length-replicate)
