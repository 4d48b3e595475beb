-- Where each record stands in a state's bytes: a table lies behind what comes before it, whose length is the table's place. So a record is
-- read and written at its place, and the whole state is read back as it was written.
use mathlib.Core.Path.{◌≡◌, refl, sym, ap, ◌∙◌}
use mathlib.Core.List.{List, ◌++◌, append_assoc}
use Prim.Native.Nat.{ℕ, ◌+◌, ◌*◌, ◌≤◌, ◌<◌}
use native.Mathlib.Nat.{add-zero}
use native.Mathlib.Omega.{arith}
use lib.ListN.{length, get_or, set, drop, length-append, length-set}
use lib.Seq.{drop_at}
use Rattle.lent.specs.Bytes.{le32, splice, win, zeros}
use Rattle.lent.specs.Tables.{Each, read_tab, tab_of}
use Rattle.lent.proofs.Numbers.{Width, width32, width64, le-win}
use Rattle.lent.proofs.Splice.{get_or-win, splice_front, splice-whole, win_front, win-whole, win-win}
use Rattle.lent.proofs.Tables.{Wide, each_at, each_map, each_set, put_tab_at, read_tab_lem, win_tab_at}
use Rattle.machine.specs.Sizes.{key_count, session_count, row_count, head_size, keys_from, key_width, rows_from, row_width, sessions_from, session_width, rest_size, read_life_field, write_life_field, next_session_field, next_token_field}
use Rattle.machine.specs.State.{Head, no_session, no_row, State, blank}
use Rattle.machine.specs.Expiry.{with_head, with_keys, with_sessions, with_rows}
use Rattle.layout.specs.Layout.{enc_head, dec_head, enc_key, dec_key, enc_row, dec_row, enc_session, dec_session, encode, decode}
use Rattle.layout.specs.Holds.{KeyFits, SlotFits, RowFits, Fits, Holds}
use Rattle.layout.proofs.Widths.{length_head, length_key, length_row, length_session, length_keys, length_rows}
use Rattle.layout.proofs.Records.{head_read, key_read, row_read, session_read}

-- the header is read from its own bytes
head_win : (b : List ℕ) → dec_head (win b 0 head_size) ≡ dec_head b
unfolding dec_head
head_win b =
    rw (
      le-win width64 b 0 head_size 0 (omega arith),
      le-win width32 b 0 head_size read_life_field (omega arith),
      le-win width32 b 0 head_size write_life_field (omega arith),
      le-win width32 b 0 head_size next_session_field (omega arith),
      le-win width32 b 0 head_size next_token_field (omega arith),
    )

-- ---- a table, what comes before it and what comes behind it

-- xs is a table of the state `to xs`, n records of w bytes from a place on, and ys in its place makes the state `to ys`; P is what makes a record fit
pub record Table {A : Type 0} (P : A → Type 0) (enc : A → List ℕ) (free : A) (w from n : ℕ) (xs : List A) (to : List A → State) : Type 0 where
  pub before : List ℕ
  pub behind : List ℕ
  pub place : length before ≡ from
  pub bytes : (ys : List A) → encode (to ys) ≡ before ++ (tab_of enc ys ++ behind)
  pub wide : (x : A) → P x → length (enc x) ≡ w
  pub long : length xs ≡ n
  pub each : Each P xs
  pub fits : (ys : List A) → length ys ≡ n → Each P ys → Fits (to ys)

module _ {A : Type 0} {P : A → Type 0} {enc : A → List ℕ} {free : A} {w from n : ℕ} {xs : List A} {to : List A → State} where
  module _ (t : Table P enc free w from n xs to) where
    all_wide : Wide enc w xs
    all_wide = each_map P (λ x. length (enc x) ≡ w) xs t.wide t.each

    -- a record is read at its place, and written there
    record-at : (i : ℕ) → i < n → win (encode (to xs)) (from + i * w) w ≡ enc (get_or xs i free)
    record-at i h = rw (t.bytes xs) (win_tab_at enc w t.before from t.place xs t.behind all_wide free i (rw t.long h))

    record-put : (i : ℕ) (x : A) → P x → i < n → splice (encode (to xs)) (from + i * w) (enc x) ≡ encode (to (set xs i x))
    record-put i x g h =
        rw (t.bytes xs) (put_tab_at enc w t.before from t.place xs t.behind all_wide x i (t.wide x g) (rw t.long h))
        ∙ sym (t.bytes (set xs i x))

    -- all are read back as they were written
    table_read : (dec : List ℕ → A) → ((x : A) → P x → dec (enc x) ≡ x) → read_tab dec w n (drop from (encode (to xs))) ≡ xs
    table_read dec r =
        rw (t.bytes xs, drop_at t.before (tab_of enc xs ++ t.behind) from t.place)
        (read_tab_lem enc dec w xs t.behind n t.long all_wide (each_map P (λ x. dec (enc x) ≡ x) xs r t.each))

    -- record i of the table stands in the bytes b at its place, it fits, and one that fits, written there, makes the bytes of the state with it
    pub record Stands (b : List ℕ) (i : ℕ) : Type 0 where
      pub held : win b (from + i * w) w ≡ enc (get_or xs i free)
      pub fits : P (get_or xs i free)
      pub store : (x : A) → P x → Holds (splice b (from + i * w) (enc x)) (to (set xs i x))

    pub record-stands : {b : List ℕ} {i : ℕ} → Holds b (to xs) → i < n → Stands b i
    record-stands {b} {i} h l = record {
      held = rw h.bytes (record-at i l);
      fits = each_at P xs free i (rw t.long l) t.each;
      store = λ x g. record { bytes = rw h.bytes (record-put i x g l); fits = t.fits (set xs i x) (length-set xs i x ∙ t.long) (each_set P xs i x g t.each) };
    }

  module _ {t : Table P enc free w from n xs to} {b : List ℕ} {i : ℕ} (r : Stands t b i) where
    -- bytes of the record
    pub win-at : (j m : ℕ) → j + m ≤ w → win b (from + i * w + j) m ≡ win (enc (get_or xs i free)) j m
    win-at j m h = sym (win-win b (from + i * w) w j m h) ∙ ap (λ (y : List ℕ). win y j m) r.held

    -- a field that each record has, z as it is read in the whole
    field_at : {f : A → ℕ} {z : ℕ} (read : List ℕ → ℕ) → read (win b (from + i * w) w) ≡ z → ((x : A) → P x → read (enc x) ≡ f x) → z ≡ f (get_or xs i free)
    field_at read q e = sym q ∙ ap read r.held ∙ e (get_or xs i free) r.fits

    pub byte_at : {f : A → ℕ} (j : ℕ) → j < w → ((x : A) → get_or (enc x) j 0 ≡ f x) → get_or b (from + i * w + j) 0 ≡ f (get_or xs i free)
    byte_at j h e = field_at (λ y. get_or y j 0) (get_or-win b (from + i * w) w j h) (λ x p. e x)

    pub le-at : {m : ℕ} {le : List ℕ → ℕ → ℕ} {bytes : ℕ → List ℕ} {f : A → ℕ} → Width m le bytes → (j : ℕ) → j + m ≤ w → ((x : A) → P x → le (enc x) j ≡ f x) → le b (from + i * w + j) ≡ f (get_or xs i free)
    le-at {le = le} v j h = field_at (λ y. le y j) (le-win v b (from + i * w) w j h)

    -- its first field
    pub byte-first : 1 ≤ w → get_or b (from + i * w) 0 ≡ get_or (enc (get_or xs i free)) 0 0
    byte-first h = rw add-zero at (byte_at 0 h (λ x. refl))

    pub le32-first : {f : A → ℕ} → 4 ≤ w → ((x : A) → P x → le32 (enc x) 0 ≡ f x) → le32 b (from + i * w) ≡ f (get_or xs i free)
    le32-first h e = rw add-zero at (le-at width32 0 h e)

module _ (s : State) where
  abbrev behind_rows : List ℕ
  behind_rows = tab_of enc_session s.sessions ++ zeros rest_size

  abbrev behind_keys : List ℕ
  behind_keys = tab_of enc_row s.rows ++ behind_rows

  abbrev before_rows : List ℕ
  before_rows = enc_head s.head ++ tab_of enc_key s.keys

  abbrev before_sessions : List ℕ
  before_sessions = before_rows ++ tab_of enc_row s.rows

  keys_in : encode s ≡ enc_head s.head ++ (tab_of enc_key s.keys ++ behind_keys)
  unfolding encode
  keys_in = refl

  rows_in : encode s ≡ before_rows ++ (tab_of enc_row s.rows ++ behind_rows)
  rows_in = keys_in ∙ sym (append_assoc (enc_head s.head) (tab_of enc_key s.keys) behind_keys)

  sessions_in : encode s ≡ before_sessions ++ (tab_of enc_session s.sessions ++ zeros rest_size)
  sessions_in = rows_in ∙ sym (append_assoc before_rows (tab_of enc_row s.rows) behind_rows)

module _ (s : State) (f : Fits s) where
  rows_from_lem : length (before_rows s) ≡ rows_from
  rows_from_lem = simp (length-append, length_head s.head, length_keys s f)

  sessions_from_lem : length (before_sessions s) ≡ sessions_from
  sessions_from_lem = length-append (before_rows s) (tab_of enc_row s.rows) ∙ rw (rows_from_lem, length_rows s f)

  pub keys_table : Table KeyFits enc_key blank key_width keys_from key_count s.keys (with_keys s)
  keys_table = record {
    before = enc_head s.head;
    behind = behind_keys s;
    place = length_head s.head;
    bytes = λ l. keys_in (with_keys s l);
    wide = length_key;
    long = f.keys;
    each = f.each_key;
    fits = λ l n e. record { head = f.head; keys = n; sessions = f.sessions; rows = f.rows; each_key = e; each_session = f.each_session; each_row = f.each_row };
  }

  pub rows_table : Table RowFits enc_row no_row row_width rows_from row_count s.rows (with_rows s)
  rows_table = record {
    before = before_rows s;
    behind = behind_rows s;
    place = rows_from_lem;
    bytes = λ l. rows_in (with_rows s l);
    wide = length_row;
    long = f.rows;
    each = f.each_row;
    fits = λ l n e. record { head = f.head; keys = f.keys; sessions = f.sessions; rows = n; each_key = f.each_key; each_session = f.each_session; each_row = e };
  }

  pub sessions_table : Table SlotFits enc_session no_session session_width sessions_from session_count s.sessions (with_sessions s)
  sessions_table = record {
    before = before_sessions s;
    behind = zeros rest_size;
    place = sessions_from_lem;
    bytes = λ l. sessions_in (with_sessions s l);
    wide = λ x g. length_session x;
    long = f.sessions;
    each = f.each_session;
    fits = λ l n e. record { head = f.head; keys = f.keys; sessions = n; rows = f.rows; each_key = f.each_key; each_session = e; each_row = f.each_row };
  }

  -- ---- the header at its place

  pub head_at : win (encode s) 0 head_size ≡ enc_head s.head
  head_at = rw (keys_in s, win_front (enc_head s.head) (tab_of enc_key s.keys ++ behind_keys s) 0 head_size (rw (length_head s.head) (omega arith))) (win-whole (enc_head s.head) head_size (length_head s.head))

  pub put_head : (x : Head) → splice (encode s) 0 (enc_head x) ≡ encode (with_head s x)
  put_head x =
      rw (keys_in s, splice_front (enc_head s.head) (tab_of enc_key s.keys ++ behind_keys s) (enc_head x) 0 (rw (length_head s.head, length_head x) (omega arith)), splice-whole (enc_head s.head) (enc_head x) (length_head s.head ∙ sym (length_head x)))
      (sym (keys_in (with_head s x)))

  -- ---- reading all

  pub head_decoded : dec_head (encode s) ≡ s.head
  head_decoded = sym (head_win (encode s)) ∙ ap dec_head head_at ∙ head_read s.head f.head

  pub decode-encode : decode (encode s) ≡ s
  unfolding decode
  decode-encode = rw (head_decoded, table_read keys_table dec_key key_read, table_read rows_table dec_row row_read, table_read sessions_table dec_session session_read)
