-- A record's parts written where they stand: a value and its mark, a lease, what is staged, the header's numbers. What is not written stays,
-- so each makes the bytes of the record with that part.
use mathlib.Core.Path.{◌≡◌, refl, sym, ap, ◌∙◌}
use mathlib.Core.Bool.{true, false}
use mathlib.Core.List.{List, [], ◌∷◌, ◌++◌}
use mathlib.Core.Option.{Option, none, some}
use Prim.Native.Nat.{ℕ, ◌+◌, ◌-◌, ◌*◌, ◌≤◌, ◌<◌, ◌^◌}
use native.Mathlib.Nat.{add-zero}
use native.Mathlib.Omega.{arith}
use lib.ListN.{length, set, length-replicate}
use Rattle.lent.specs.Bytes.{bytes32, bytes64, splice, win, zeros}
use Rattle.lent.proofs.Choices.{clash}
use Rattle.lent.proofs.Splice.{length-splice, length-win, splice-append, splice_front, splice-next, splice-whole}
use Rattle.machine.specs.Sizes.{key_count, row_count, head_size, keys_from, key_width, rows_from, row_width, value_max, next_session_field, next_token_field, key_token_field, key_value_field, lease_width, row_staged_field, value_at}
use Rattle.machine.specs.State.{Value, Head, Lease, Key, Staged, Row, no_row, row, State, key_of, row_at, free_row}
use Rattle.machine.specs.Expiry.{with_head, with_keys, with_rows, with_clock, with_numbers, set_value, set_lease}
use Rattle.machine.specs.Effects.{restaged}
use Rattle.layout.specs.Layout.{padded, enc_head, value_mark, value_bytes, lease_bytes, enc_key, staged_bytes, enc_row}
use Rattle.layout.specs.Fields.{value_length}
use Rattle.layout.specs.Holds.{HeadFits, ValueFits, LeaseFits, KeyFits, StagedFits, RowFits, Holds}
use Rattle.layout.proofs.Widths.{length-mark, length_lease, length_value, length_staged}
use Rattle.layout.proofs.Formed.{holds_size}
use Rattle.layout.proofs.Held.{part_none, part_more, head_held, store_head, key_stands, row_stands}

-- ---- parts of any record

-- the front of a list replaced by one as long
splice_over_front : (x y r : List ℕ) → length x ≡ length y → splice (x ++ r) 0 y ≡ y ++ r
splice_over_front x y r e = splice_front x r y 0 (omega arith) ∙ rw (splice-whole x y e)

module _ (b : List ℕ) (a w : ℕ) (x : List ℕ) (e : win b a w ≡ x) (l : a + w ≤ length b) where
  -- at a place in the record, or at its front
  part_put : (i : ℕ) (y v : List ℕ) → i + length y ≤ w → splice x i y ≡ v → splice b (a + i) y ≡ splice b a v
  part_put i y v m q =
      let lx : length x ≡ w = ap length (sym e) ∙ length-win b a w l in
      part_more b a w l b x i y (part_none b a w l ∙ rw e) lx m ∙ rw q

  front_put : (y v : List ℕ) → length y ≤ w → splice x 0 y ≡ v → splice b a y ≡ splice b a v
  front_put y v m q = rw add-zero at (part_put 0 y v (omega arith) q)

  -- at its front, then at a place in it
  parts_put : (y : List ℕ) (j : ℕ) (z v : List ℕ) → length y ≤ w → j + length z ≤ w → splice (splice x 0 y) j z ≡ v → splice (splice b a y) (a + j) z ≡ splice b a v
  parts_put y j z v m n q =
      let lx : length x ≡ w = ap length (sym e) ∙ length-win b a w l in
      part_more b a w l (splice b a y) (splice x 0 y) j z (front_put y (splice x 0 y) m refl) (length-splice x 0 y (omega arith) ∙ lx) n ∙ rw q

-- ---- a value in its 64 bytes

pub padded_put : (b v : List ℕ) (a : ℕ) → length v ≤ value_max → a + value_max ≤ length b → splice (splice b a v) (a + length v) (zeros (value_max - length v)) ≡ splice b a (padded v)
padded_put b v a h l = splice-next b v (zeros (value_max - length v)) a (length v) refl (simp length-replicate (omega arith))

-- ---- a key

-- 1 if a value is there
abbrev pub value_tag : Option Value → ℕ
value_tag none = 0
value_tag (some v) = 1

mark_put : (o p : Option Value) → splice (value_mark o) 0 (value_tag p ∷ value_length p ∷ []) ≡ value_mark p
unfolding splice
mark_put none none = refl
mark_put none (some v) = refl
mark_put (some v) none = refl
mark_put (some v) (some w) = refl

module _ (k : Key) (f : KeyFits k) where
  key_marked : (o : Option Value) → splice (enc_key k) 0 (value_tag o ∷ value_length o ∷ []) ≡ value_mark o ++ (lease_bytes k.lease ++ value_bytes k.value)
  unfolding enc_key
  key_marked o =
      splice_front (value_mark k.value) (lease_bytes k.lease ++ value_bytes k.value) (value_tag o ∷ value_length o ∷ []) 0 (rw (length-mark k.value) (omega arith))
      ∙ rw (mark_put k.value o)

  key_valued : (o : Option Value) → ValueFits o → splice (splice (enc_key k) 0 (value_tag o ∷ value_length o ∷ [])) key_value_field (value_bytes o) ≡ enc_key (record { value = o; lease = k.lease })
  unfolding enc_key
  key_valued o g =
      rw (key_marked o)
      (splice-append (value_mark o) (lease_bytes k.lease ++ value_bytes k.value) (value_bytes o) key_token_field lease_width (length-mark o)
      ∙ rw (splice-append (lease_bytes k.lease) (value_bytes k.value) (value_bytes o) lease_width 0 (length_lease k.lease))
      (rw (splice-whole (value_bytes k.value) (value_bytes o) (length_value k.value f.value ∙ sym (length_value o g)))))

  key_leased : (o : Option Lease) → splice (enc_key k) key_token_field (lease_bytes o) ≡ enc_key (record { value = k.value; lease = o })
  unfolding enc_key
  key_leased o =
      splice-append (value_mark k.value) (lease_bytes k.lease ++ value_bytes k.value) (lease_bytes o) key_token_field 0 (length-mark k.value)
      ∙ rw (splice_over_front (lease_bytes k.lease) (lease_bytes o) (value_bytes k.value) (length_lease k.lease ∙ sym (length_lease o)))

module _ {b : List ℕ} {s : State} (h : Holds b s) (k : ℕ) (l : k < key_count) where
  pub value_put : (o : Option Value) → ValueFits o → Holds (splice (splice b (keys_from + k * key_width) (value_tag o ∷ value_length o ∷ [])) (value_at k) (value_bytes o)) (with_keys s (set_value s.keys k o))
  value_put o g =
      let n : key_value_field + length (value_bytes o) ≤ key_width = rw (length_value o g) (omega arith) in
      let valued : Key = record { value = o; lease = (key_of s k).lease } in
      let mark = value_tag o ∷ value_length o ∷ [] in
      rw (parts_put b (keys_from + k * key_width) key_width (enc_key (key_of s k)) (key_stands h k l).held (omega (arith, holds_size h))
      mark key_value_field (value_bytes o) (enc_key valued) (omega arith) n (key_valued (key_of s k) (key_stands h k l).fits o g))
      ((key_stands h k l).store valued (record { value = g; lease = (key_stands h k l).fits.lease }))

  pub lease_put : (o : Option Lease) → LeaseFits o → Holds (splice b (keys_from + k * key_width + key_token_field) (lease_bytes o)) (with_keys s (set_lease s.keys k o))
  lease_put o g =
      let n : key_token_field + length (lease_bytes o) ≤ key_width = rw (length_lease o) (omega arith) in
      let leased : Key = record { value = (key_of s k).value; lease = o } in
      rw (part_put b (keys_from + k * key_width) key_width (enc_key (key_of s k)) (key_stands h k l).held (omega (arith, holds_size h))
      key_token_field (lease_bytes o) (enc_key leased) n (key_leased (key_of s k) (key_stands h k l).fits o))
      ((key_stands h k l).store leased (record { value = (key_stands h k l).fits.value; lease = g }))

-- ---- a row

row_restaged : (n k d : ℕ) (u w : Staged) → StagedFits u → StagedFits w → splice (enc_row (row n k d u)) row_staged_field (staged_bytes w) ≡ enc_row (row n k d w)
unfolding enc_row
row_restaged n k d u w f g =
    splice-append (bytes32 n ++ (k ∷ d ∷ [])) (staged_bytes u) (staged_bytes w) row_staged_field 0 refl
    ∙ rw (splice-whole (staged_bytes u) (staged_bytes w) (length_staged u f ∙ sym (length_staged w g)))

module _ {b : List ℕ} {s : State} (h : Holds b s) (i : ℕ) (l : i < row_count) where
  pub staged_put : (u : Staged) → StagedFits u → free_row (row_at s i) ≡ false → Holds (splice b (rows_from + i * row_width + row_staged_field) (staged_bytes u)) (with_rows s (set s.rows i (restaged u (row_at s i))))
  staged_put u g e =
      let n : row_staged_field + length (staged_bytes u) ≤ row_width = rw (length_staged u g) (omega arith) in
      let r = go (row_at s i) (row_stands h i l).fits e in
      rw (part_put b (rows_from + i * row_width) row_width (enc_row (row_at s i)) (row_stands h i l).held (omega (arith, holds_size h)) row_staged_field (staged_bytes u) (enc_row (restaged u (row_at s i))) n r.0)
      ((row_stands h i l).store (restaged u (row_at s i)) r.1)
    where
      go : (r : Row) → RowFits r → free_row r ≡ false → (splice (enc_row r) row_staged_field (staged_bytes u) ≡ enc_row (restaged u r)) × RowFits (restaged u r)
      go no_row f p = clash true refl p
      go (row n k d v) f p = (row_restaged n k d v u f.staged g, record { given = f.given; session = f.session; staged = g })

-- ---- the header

abbrev clocked : Head → ℕ → Head
clocked x t = record { clock = t; read_life = x.read_life; write_life = x.write_life; next_session = x.next_session; next_token = x.next_token }

abbrev renumbered : Head → ℕ → ℕ → Head
renumbered x n t = record { clock = x.clock; read_life = x.read_life; write_life = x.write_life; next_session = n; next_token = t }

module _ (x : Head) where
  head_clocked : (t : ℕ) → splice (enc_head x) 0 (bytes64 t) ≡ enc_head (clocked x t)
  unfolding enc_head splice
  head_clocked t = refl

  head_numbered : (n : ℕ) → splice (enc_head x) next_session_field (bytes32 n) ≡ enc_head (renumbered x n x.next_token)
  unfolding enc_head splice
  head_numbered n = refl

  head_tokened : (t : ℕ) → splice (enc_head x) next_token_field (bytes32 t) ≡ enc_head (renumbered x x.next_session t)
  unfolding enc_head splice
  head_tokened t = refl

module _ {b : List ℕ} {s : State} (h : Holds b s) where
  abbrev x : Head
  x = s.head

  -- a part of the header
  head_put : (i : ℕ) (y : List ℕ) (z : Head) → i + length y ≤ head_size → splice (enc_head x) i y ≡ enc_head z → HeadFits z → Holds (splice b i y) (with_head s z)
  head_put i y z n q g =
      let p : 0 + i ≡ i = omega arith in
      rw (rw p at (part_put b 0 head_size (enc_head x) (head_held h) (omega (arith, holds_size h)) i y (enc_head z) n q)) (store_head h z g)

  pub clock_put : (t : ℕ) → t < 2 ^ 64 → Holds (splice b 0 (bytes64 t)) (with_clock s t)
  clock_put t g = let f = h.fits.head in
      head_put 0 (bytes64 t) (clocked x t) (omega arith) (head_clocked x t) (record { clock = g; read_life = f.read_life; write_life = f.write_life; next_session = f.next_session; next_token = f.next_token })

  pub session_next_put : (n : ℕ) → n < 2 ^ 32 → Holds (splice b next_session_field (bytes32 n)) (with_numbers s n x.next_token)
  session_next_put n g = let f = h.fits.head in
      head_put next_session_field (bytes32 n) (renumbered x n x.next_token) (omega arith) (head_numbered x n) (record { clock = f.clock; read_life = f.read_life; write_life = f.write_life; next_session = g; next_token = f.next_token })

  pub token-next_put : (t : ℕ) → t < 2 ^ 32 → Holds (splice b next_token_field (bytes32 t)) (with_numbers s x.next_session t)
  token-next_put t g = let f = h.fits.head in
      head_put next_token_field (bytes32 t) (renumbered x x.next_session t) (omega arith) (head_tokened x t) (record { clock = f.clock; read_life = f.read_life; write_life = f.write_life; next_session = f.next_session; next_token = g })
