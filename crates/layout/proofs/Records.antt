-- Each record is read from its bytes as it was written: field by field, where the bytes of a number say it and a value is as long as its
-- length byte says; so the whole record.
use Rattle.std.specs.Prelude.{if◌then◌else◌}
use mathlib.Core.Path.{◌≡◌, refl, ap}
use mathlib.Core.Bool.{false, not}
use mathlib.Core.List.{List, ◌++◌}
use mathlib.Core.Option.{Option, none, some}
use Prim.Native.Nat.{ℕ, ◌≤◌, ◌<◌, ◌^◌}
use native.Mathlib.Omega.{arith}
use lib.Dec.{eqb}
use lib.ListN.{length, get_or}
use lib.Seq.{take_at}
use borrow.Author.Tests.{ne_eqb}
use Rattle.lent.specs.Bytes.{le32, le64, win}
use Rattle.lent.proofs.Numbers.{width16, width32, width64, le_bytes}
use Rattle.lent.proofs.Choices.{zero_one}
use Rattle.machine.specs.Tables.{is_none}
use Rattle.machine.specs.Sizes.{key_length_field, key_token_field, key_until_field, key_value_field, row_key_field, row_kind_field, row_staged_field, row_length_field, row_value_field}
use Rattle.machine.specs.State.{Value, Head, Lease, Key, Slot, no_session, session, Staged, nothing, staged, DROP, Row, no_row, row, kind_of, staged_in}
use Rattle.machine.specs.Sound.{token_in, number_in}
use Rattle.machine.specs.declared.Life.{Life}
use Rattle.layout.specs.Layout.{enc_head, dec_head, value_mark, value_bytes, lease_bytes, enc_key, dec_value, dec_lease, dec_key, enc_row, dec_staged, dec_row, life_time, enc_session, dec_life, session_from, dec_session}
use Rattle.layout.specs.Fields.{value_length, lease_until, row_session, row_key, staged_mark, staged_length, session_in}
use Rattle.layout.specs.Holds.{HeadFits, LeaseFits, KeyFits, SlotFits, RowFits}

-- a number that is not 0 is told from 0
given_not_zero : (n : ℕ) → 1 ≤ n → eqb n 0 ≡ false
given_not_zero n h = ne_eqb n 0 (λ e. omega arith)

-- so a lease, a row or a session whose bytes say 0 is not there
pub lease_none : (o : Option Lease) → LeaseFits o → token_in o ≡ 0 → o ≡ none
lease_none none f e = refl
lease_none (some l) f e = absurd (omega (arith, f.given))

pub row_none : (r : Row) → RowFits r → row_session r ≡ 0 → r ≡ no_row
row_none no_row f e = refl
row_none (row n k d u) f e = absurd (omega (arith, f.given))

pub slot_none : (e : Slot) → SlotFits e → (session_in e).number ≡ 0 → e ≡ no_session
slot_none no_session f z = refl
slot_none (session x) f z = absurd (omega (arith, f.given))

-- ---- the header

pub head_read : (h : Head) → HeadFits h → dec_head (enc_head h) ≡ h
unfolding enc_head dec_head
head_read h f =
    rw (le_bytes width64 h.clock f.clock, le_bytes width32 h.read_life f.read_life, le_bytes width32 h.write_life f.write_life, le_bytes width32 h.next_session f.next_session, le_bytes width32 h.next_token f.next_token)

-- ---- a key

abbrev key_bytes : Option Value → Option Lease → List ℕ
key_bytes o l = value_mark o ++ (lease_bytes l ++ value_bytes o)

value_mark-byte : (o : Option Value) (l : Option Lease) → eqb (get_or (key_bytes o l) 0 0) 1 ≡ not (is_none o)
value_mark-byte none l = refl
value_mark-byte (some v) l = refl

value_length-byte : (o : Option Value) (l : Option Lease) → get_or (key_bytes o l) key_length_field 0 ≡ value_length o
value_length-byte none l = refl
value_length-byte (some v) l = refl

value_bytes_lem : (v : Value) (l : Option Lease) → win (key_bytes (some v) l) key_value_field (length v) ≡ v
unfolding win
value_bytes_lem v none = take_at v _ (length v) refl
value_bytes_lem v (some l) = take_at v _ (length v) refl

lease_said : (o : Option Value) (l : Option Lease) → LeaseFits l → (le32 (key_bytes o l) key_token_field ≡ token_in l) × (le64 (key_bytes o l) key_until_field ≡ lease_until l)
lease_said none none f = (refl, refl)
lease_said none (some l) f = (le_bytes width32 l.token f.token, le_bytes width64 l.until f.until)
lease_said (some v) none f = (refl, refl)
lease_said (some v) (some l) f = (le_bytes width32 l.token f.token, le_bytes width64 l.until f.until)

value_read : (o : Option Value) (l : Option Lease) → dec_value (key_bytes o l) ≡ o
value_read none l = refl
value_read (some v) l = ap some (value_bytes_lem v l)

lease_read : (o : Option Value) (l : Option Lease) → LeaseFits l → dec_lease (key_bytes o l) ≡ l
lease_read o l f = rw ((lease_said o l f).0, (lease_said o l f).1) (go l f)
  where
    go : (l : Option Lease) → LeaseFits l → (if eqb (token_in l) 0 then none else some (record { token = token_in l; until = lease_until l })) ≡ l
    go none f = refl
    go (some l) f = rw (given_not_zero l.token f.given)

module _ (k : Key) where
  pub key_there : eqb (get_or (enc_key k) 0 0) 1 ≡ not (is_none k.value)
  unfolding enc_key
  key_there = value_mark-byte k.value k.lease

  pub key_length : get_or (enc_key k) key_length_field 0 ≡ value_length k.value
  unfolding enc_key
  key_length = value_length-byte k.value k.lease

  pub key_value : (v : Value) → k.value ≡ some v → win (enc_key k) key_value_field (length v) ≡ v
  unfolding enc_key
  key_value v e = rw e (value_bytes_lem v k.lease)

  pub key_token : KeyFits k → le32 (enc_key k) key_token_field ≡ token_in k.lease
  unfolding enc_key
  key_token f = (lease_said k.value k.lease f.lease).0

  pub key_until : KeyFits k → le64 (enc_key k) key_until_field ≡ lease_until k.lease
  unfolding enc_key
  key_until f = (lease_said k.value k.lease f.lease).1

  pub key_read : KeyFits k → dec_key (enc_key k) ≡ k
  unfolding enc_key dec_key
  key_read f = rw (value_read k.value k.lease, lease_read k.value k.lease f.lease)

-- ---- a row

pub row_session_lem : (r : Row) → RowFits r → le32 (enc_row r) 0 ≡ row_session r
unfolding enc_row
row_session_lem no_row f = refl
row_session_lem (row n k d u) f = le_bytes width32 n f.session

-- its single bytes: the key, the kind, the mark and the length of what is staged
pub row_said : (r : Row) → (get_or (enc_row r) row_key_field 0 ≡ row_key r) × (get_or (enc_row r) row_kind_field 0 ≡ kind_of r) × (get_or (enc_row r) row_staged_field 0 ≡ staged_mark (staged_in r)) × (get_or (enc_row r) row_length_field 0 ≡ staged_length (staged_in r))
unfolding enc_row
row_said no_row = (refl, refl, refl, refl)
row_said (row n k d nothing) = (refl, refl, refl, refl)
row_said (row n k d (staged v)) = (refl, refl, refl, refl)
row_said (row n k d DROP) = (refl, refl, refl, refl)

staged_bytes_lem : (n k d : ℕ) (v : Value) → win (enc_row (row n k d (staged v))) row_value_field (length v) ≡ v
unfolding enc_row win
staged_bytes_lem n k d v = take_at v _ (length v) refl

pub row_value : (r : Row) (v : Value) → staged_in r ≡ staged v → win (enc_row r) row_value_field (length v) ≡ v
row_value no_row v e = zero_one cc
row_value (row n k d u) v e = rw e (staged_bytes_lem n k d v)

staged_read : (n k d : ℕ) (u : Staged) → dec_staged (enc_row (row n k d u)) ≡ u
unfolding enc_row
staged_read n k d nothing = refl
staged_read n k d (staged v) = ap staged (staged_bytes_lem n k d v)
staged_read n k d DROP = refl

pub row_read : (r : Row) → RowFits r → dec_row (enc_row r) ≡ r
unfolding dec_row enc_row
row_read no_row f = refl
row_read (row n k d u) f =
    rw (row_session_lem (row n k d u) f, given_not_zero n f.given, (row_said (row n k d u)).0, (row_said (row n k d u)).1, staged_read n k d u)

-- ---- a session

pub session_number_bytes : (e : Slot) → SlotFits e → le32 (enc_session e) 0 ≡ number_in e
unfolding enc_session
session_number_bytes no_session f = refl
session_number_bytes (session x) f = le_bytes width32 x.number f.number

life_read : (n c : ℕ) (l : Life) → life_time l < 2 ^ 64 → dec_life (enc_session (session (record { number = n; life = l; count = c }))) ≡ l
unfolding enc_session
life_read n c (Life.Open t) f = ap Life.Open (le_bytes width64 t f)
life_read n c Life.Sealed f = refl

-- also of a free place
pub session_from_lem : (e : Slot) → SlotFits e → session_from (enc_session e) ≡ session_in e
unfolding enc_session
session_from_lem no_session f = refl
session_from_lem (session x) f =
    rw (session_number_bytes (session x) f, life_read x.number x.count x.life f.until, le_bytes width16 x.count f.count)

pub session_read : (e : Slot) → SlotFits e → dec_session (enc_session e) ≡ e
unfolding dec_session enc_session
session_read no_session f = refl
session_read (session x) f =
    let e : eqb (le32 (enc_session (session x)) 0) 0 ≡ false = rw (session_number_bytes (session x) f) (given_not_zero x.number f.given) in
    rw e (ap session (session_from_lem (session x) f))
