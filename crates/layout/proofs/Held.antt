-- Bytes that hold a state: each record is read at its place and its fields with it, and a record that fits, written at its place, makes the
-- bytes of the state with that record. A record that is written part by part is written whole once its parts make it up.
use mathlib.Core.Path.{◌≡◌, refl, sym, ap, ◌∙◌}
use mathlib.Core.Bool.{true, false, not}
use mathlib.Core.List.{List}
use mathlib.Core.Option.{some}
use Prim.Native.Nat.{ℕ, ◌+◌, ◌*◌, ◌≤◌, ◌<◌}
use native.Mathlib.Omega.{arith}
use lib.Dec.{eqb}
use lib.ListN.{length, get_or}
use borrow.Author.Tests.{eqb-true}
use Rattle.lent.specs.Bytes.{le32, le64, splice, win}
use Rattle.lent.proofs.Numbers.{width32, width64}
use Rattle.lent.proofs.Splice.{length-splice, splice_over, splice_self, splice-win, win-splice}
use Rattle.lent.proofs.Choices.{clash, zero_one}
use Rattle.machine.specs.Sizes.{key_count, session_count, row_count, head_size, keys_from, key_width, rows_from, row_width, sessions_from, session_width, value_max, value_at, staged_at}
use Rattle.machine.specs.Sizes.{read_life_field, write_life_field, next_session_field, next_token_field, key_length_field, key_token_field, key_until_field, key_value_field, row_key_field, row_kind_field, row_staged_field, row_length_field, row_value_field}
use Rattle.machine.specs.Tables.{is_none}
use Rattle.machine.specs.State.{Value, Head, Slot, no_session, session, staged, Row, no_row, row, State, key_of, cached, lease_on, numbered, session_at, row_at, kind_of, staged_in}
use Rattle.machine.specs.Expiry.{with_head}
use Rattle.machine.specs.Sound.{token_in, number_in}
use Rattle.layout.specs.Layout.{enc_head, dec_head, session_from}
use Rattle.layout.specs.Fields.{value_length, lease_until, row_session, row_key, staged_mark, staged_length, session_in}
use Rattle.layout.specs.Holds.{HeadFits, SlotFits, RowFits, Holds}
use Rattle.layout.proofs.Records.{key_there, key_length, key_value, key_token, key_until, row_session_lem, row_said, row_value, session_number_bytes, session_from_lem}
use Rattle.layout.proofs.Places.{Stands, record-stands, win-at, le-at, byte_at, byte-first, le32-first, keys_table, rows_table, sessions_table, head_at, put_head, head_decoded}

staged_short : (r : Row) (v : Value) → RowFits r → staged_in r ≡ staged v → length v ≤ value_max
staged_short no_row v f e = zero_one cc
staged_short (row n k d u) v f e = rw e at f.staged

-- ---- a record that is written part by part

module _ (b : List ℕ) (a w : ℕ) (l : a + w ≤ length b) where
  -- nothing is written yet
  pub part_none : b ≡ splice b a (win b a w)
  part_none = sym (splice_self b a w l)

  -- one more part
  pub part_more : (c x : List ℕ) (i : ℕ) (y : List ℕ) → c ≡ splice b a x → length x ≡ w → i + length y ≤ w → splice c (a + i) y ≡ splice b a (splice x i y)
  part_more c x i y e m h =
      let d : List ℕ = splice b a x in
      let ld : length d ≡ length b = length-splice b a x (omega arith) in
      let wd : win d a w ≡ x = win-splice b a x w m (omega arith) in
      let ly : length (splice x i y) ≡ w = length-splice x i y (omega arith) ∙ m in
      ap (λ (r : List ℕ). splice r (a + i) y) e
      ∙ sym (splice-win d a w i y (omega arith) h)
      ∙ ap (λ (r : List ℕ). splice d a (splice r i y)) wd
      ∙ splice_over b x (splice x i y) a w m ly l

-- ---- the state that is held

module _ {b : List ℕ} {s : State} (h : Holds b s) where
  -- the header
  pub head_held : win b 0 head_size ≡ enc_head s.head
  head_held = rw h.bytes (head_at s h.fits)

  pub head_is : dec_head b ≡ s.head
  head_is = ap dec_head h.bytes ∙ head_decoded s h.fits

  pub clock_held : le64 b 0 ≡ s.head.clock
  unfolding dec_head
  clock_held = ap (λ (x : Head). x.clock) head_is

  pub read_held : le32 b read_life_field ≡ s.head.read_life
  unfolding dec_head
  read_held = ap (λ (x : Head). x.read_life) head_is

  pub write_held : le32 b write_life_field ≡ s.head.write_life
  unfolding dec_head
  write_held = ap (λ (x : Head). x.write_life) head_is

  pub session_next_held : le32 b next_session_field ≡ s.head.next_session
  unfolding dec_head
  session_next_held = ap (λ (x : Head). x.next_session) head_is

  pub token-next_held : le32 b next_token_field ≡ s.head.next_token
  unfolding dec_head
  token-next_held = ap (λ (x : Head). x.next_token) head_is

  pub store_head : (x : Head) → HeadFits x → Holds (splice b 0 (enc_head x)) (with_head s x)
  store_head x g = record {
    bytes = rw h.bytes (put_head s h.fits x);
    fits = record { head = g; keys = h.fits.keys; sessions = h.fits.sessions; rows = h.fits.rows; each_key = h.fits.each_key; each_session = h.fits.each_session; each_row = h.fits.each_row };
  }

  -- a key
  module _ (k : ℕ) (l : k < key_count) where
    pub key_stands : Stands (keys_table s h.fits) b k
    key_stands = record-stands _ h l

    pub value_there : eqb (get_or b (keys_from + k * key_width) 0) 1 ≡ not (is_none (cached s k))
    value_there = rw (byte-first key_stands (omega arith)) (key_there (key_of s k))

    pub value_long : get_or b (keys_from + k * key_width + key_length_field) 0 ≡ value_length (cached s k)
    value_long = byte_at key_stands key_length_field (omega arith) key_length

    pub value_stands : (v : Value) → cached s k ≡ some v → win b (value_at k) (length v) ≡ v
    value_stands v e =
        let f : length v ≤ value_max = rw e at key_stands.fits.value in
        win-at key_stands key_value_field (length v) (omega arith) ∙ key_value (key_of s k) v e

    pub token_held : le32 b (keys_from + k * key_width + key_token_field) ≡ token_in (lease_on s k)
    token_held = le-at key_stands width32 key_token_field (omega arith) key_token

    pub until_held : le64 b (keys_from + k * key_width + key_until_field) ≡ lease_until (lease_on s k)
    until_held = le-at key_stands width64 key_until_field (omega arith) key_until

  -- a row
  module _ (i : ℕ) (l : i < row_count) where
    pub row_stands : Stands (rows_table s h.fits) b i
    row_stands = record-stands _ h l

    pub owner_held : le32 b (rows_from + i * row_width) ≡ row_session (row_at s i)
    owner_held = le32-first row_stands (omega arith) row_session_lem

    pub target_held : get_or b (rows_from + i * row_width + row_key_field) 0 ≡ row_key (row_at s i)
    target_held = byte_at row_stands row_key_field (omega arith) (λ r. (row_said r).0)

    pub kind_held : get_or b (rows_from + i * row_width + row_kind_field) 0 ≡ kind_of (row_at s i)
    kind_held = byte_at row_stands row_kind_field (omega arith) (λ r. (row_said r).1)

    pub mark_held : get_or b (rows_from + i * row_width + row_staged_field) 0 ≡ staged_mark (staged_in (row_at s i))
    mark_held = byte_at row_stands row_staged_field (omega arith) (λ r. (row_said r).2)

    pub staged_long : get_or b (rows_from + i * row_width + row_length_field) 0 ≡ staged_length (staged_in (row_at s i))
    staged_long = byte_at row_stands row_length_field (omega arith) (λ r. (row_said r).3)

    pub staged_stands : (v : Value) → staged_in (row_at s i) ≡ staged v → win b (staged_at i) (length v) ≡ v
    staged_stands v e =
        let f : length v ≤ value_max = staged_short (row_at s i) v row_stands.fits e in
        win-at row_stands row_value_field (length v) (omega arith) ∙ row_value (row_at s i) v e

  -- a session
  module _ (i : ℕ) (l : i < session_count) where
    pub session_stands : Stands (sessions_table s h.fits) b i
    session_stands = record-stands _ h l

    pub number_held : le32 b (sessions_from + i * session_width) ≡ number_in (session_at s i)
    number_held = le32-first session_stands (omega arith) session_number_bytes

    pub session_is : session_from (win b (sessions_from + i * session_width) session_width) ≡ session_in (session_at s i)
    session_is = ap session_from session_stands.held ∙ session_from_lem (session_at s i) session_stands.fits

    -- 0 is the number of no session
    pub number-given : (n : ℕ) → numbered n (session_at s i) ≡ true → 1 ≤ n
    number-given n q = go (session_at s i) session_stands.fits q
      where
        go : (e : Slot) → SlotFits e → numbered n e ≡ true → 1 ≤ n
        go no_session f t = clash false t refl
        go (session x) f t = rw (← eqb-true x.number n t) f.given
