-- A record is formed exactly where its bytes are the encoding of what they decode to and that is sound. Each law goes field by field: the bytes
-- of a number are those of the number that they say, so that only marks, lengths and zeros are left to be the same.
use Rattle.std.specs.Prelude.{if◌then◌else◌}
use Prim.Native.Nat.{ℕ, ◌+◌, ◌-◌, ◌≤◌, ◌<◌}
use mathlib.Core.Path.{◌≡◌, refl, sym, ap, ◌∙◌}
use mathlib.Core.Bool.{Bool, true, false, ◌&&◌, and-true, and-false, and_assoc, and_comm}
use mathlib.Core.List.{List, [], ◌∷◌, ◌++◌}
use mathlib.Core.Option.{Option, none, some}
use native.Mathlib.Omega.{arith}
use lib.ListN.{length, get_or, length-take, length-drop}
use lib.Dec.{eqb, leb, ltb}
use borrow.Author.Tests.{eq-eqb, ne_eqb, eqb-true, eqb-false, lt-ltb, le-leb, leb-true, leb-false}
use Rattle.lent.specs.Bytes.{Bytes, le16, bytes16, le32, bytes32, le64, bytes64, win, zeros}
use Rattle.lent.specs.Tables.{every, all_zero, same}
use Rattle.lent.proofs.Choices.{and_yes, and_ahead}
use Rattle.lent.proofs.Equal.{same_refl, same-zeros, same-win, same-one, same-padded}
use Rattle.lent.proofs.Numbers.{width16, width32, width64, bytes_le, zero-le}
use Rattle.lent.proofs.Splice.{length-win, get_or-win, win-add, win-whole}
use Rattle.lent.proofs.Walks.{all-every}
use Rattle.lent.proofs.Zeros.{zero-append}
use Rattle.machine.specs.Sizes.{state_size, head_size, key_count, key_width, row_width, session_width, value_max, step_max, time_max}
use Rattle.machine.specs.Words.{REFRESH, INCREMENTAL, is_kind}
use Rattle.machine.specs.State.{Value, Head, Lease, no_session, session, nothing, staged, DROP, no_row, row}
use Rattle.machine.specs.Sound.{head_sound, value_sound, cached_sound, given, lease_sound, key_sound, life_sound, session_sound, staged_sound, row_sound}
use Rattle.machine.specs.declared.Life.{Life}
use Rattle.layout.proofs.Widths.{length-mark, length_lease}
use Rattle.layout.specs.Layout.{padded, enc_head, dec_head, value_mark, value_bytes, lease_bytes, enc_key, dec_value, dec_lease, dec_key, staged_bytes, enc_row, dec_staged, dec_row, life_mark, life_time, enc_session, dec_life, session_from, dec_session}
use Rattle.state.specs.Forms.{head_formed, fitted, value_formed, lease_formed, key_formed, staged_formed, row_formed, life_formed, session_formed, read_limit, write_limit}

-- the clock of a header that is formed leaves room for a lifetime
pub head_clock : (s : List ℕ) → head_formed s ≡ true → le64 s 0 ≤ time_max
unfolding head_formed head_sound dec_head
head_clock s e = leb-true (le64 s 0) time_max (and_yes (leb (le64 s 0) time_max) _ (and_yes (head_sound (dec_head s)) _ e).0).0

module _ (x : List ℕ) (f : Bytes x) where
  -- a field at `a` that is written as it was read
  skip : (a m n : ℕ) (p q : List ℕ) → p ≡ win x a m → a + (m + n) ≤ length x → same (win x a (m + n)) (p ++ q) ≡ same (win x (a + m) n) q
  skip a m n p q e h =
      same-win x a m n p q (ap length e ∙ length-win x a m (omega arith)) h ∙ rw (e, same_refl (win x a m))

  skip_word : (a n : ℕ) (q : List ℕ) → a + (4 + n) ≤ length x → same (win x a (4 + n)) (bytes32 (le32 x a) ++ q) ≡ same (win x (a + 4) n) q
  skip_word a n q h = skip a 4 n (bytes32 (le32 x a)) q (bytes_le width32 x f a (omega arith)) h

  -- the whole of a record
  same_whole : (n : ℕ) (y : List ℕ) → length x ≡ n → same x y ≡ same (win x 0 n) y
  same_whole n y h = ap (λ (z : List ℕ). same z y) (sym (win-whole x n h))

  same_byte : (a n v : ℕ) (q : List ℕ) → a + (1 + n) ≤ length x → same (win x a (1 + n)) (v ∷ q) ≡ eqb (get_or x a 0) v && same (win x (a + 1) n) q
  same_byte a n v q h = same-win x a 1 n (v ∷ []) q refl h ∙ rw (same-one x a v (omega arith))

  same-zero : (a n : ℕ) → a + n ≤ length x → same (win x a n) (zeros n) ≡ all_zero (win x a n)
  same-zero a n h = same-zeros (win x a n) n (length-win x a n h)

  same_eight : (a : ℕ) → a + 8 ≤ length x → same (win x a 8) (bytes64 (le64 x a)) ≡ true
  same_eight a h = rw (bytes_le width64 x f a h) (same_refl (win x a 8))

  -- ---- a value in the last 64 bytes, its length beside it
  module _ (a n : ℕ) (h : length x ≡ a + value_max) where
    cut_short : value_max < n → length (win x a n) ≡ value_max
    unfolding win
    cut_short b = simp (length-take, length-drop) (omega arith)

    held_is_fitted : eqb n (length (win x a n)) && (same (win x a value_max) (padded (win x a n)) && value_sound (win x a n)) ≡ fitted x a n
    unfolding fitted
    held_is_fitted = go (leb n value_max) refl
      where
        go : (t : Bool) → leb n value_max ≡ t
            → eqb n (length (win x a n)) && (same (win x a value_max) (padded (win x a n)) && value_sound (win x a n)) ≡ leb n value_max && all_zero (win x (a + n) (value_max - n))
        go true e =
            let b : n ≤ value_max = leb-true n value_max e in
            let l : length (win x a n) ≡ n = length-win x a n (omega arith) in
            let v : every (λ i. ltb (get_or (win x a n) i 0) 256) n ≡ true = all-every _ n (λ i k. rw (get_or-win x a n i k) (lt-ltb _ 256 (f (a + i)))) in
            rw (l, eq-eqb n n refl, same-padded x a n value_max b (omega arith), e, v) (and-true (all_zero (win x (a + n) (value_max - n))))
        go false e =
            let b : value_max < n = leb-false n value_max e in
            rw (ne_eqb n (length (win x a n)) (λ q. omega (arith, cut_short b)), e)

  -- ---- a row
  module _ (h : length x ≡ row_width) where
    staged_is_formed : (d : ℕ) → same (win x 6 (2 + value_max)) (staged_bytes (dec_staged x)) && staged_sound d (dec_staged x) ≡ staged_formed d x
    unfolding staged_formed
    staged_is_formed d = go (eqb (get_or x 6 0) 1) (eqb (get_or x 6 0) 2) refl refl
      where
        mix : (a b c e : Bool) → (a && b) && (c && e) ≡ c && (a && (b && e))
        mix a b true e = and_assoc a b e
        mix a b false e = and-false (a && b)

        go : (t u : Bool) → eqb (get_or x 6 0) 1 ≡ t → eqb (get_or x 6 0) 2 ≡ u
            → same (win x 6 (2 + value_max)) (staged_bytes (if t then staged (win x 8 (get_or x 7 0)) else if u then DROP else nothing)) && staged_sound d (if t then staged (win x 8 (get_or x 7 0)) else if u then DROP else nothing)
            ≡ (if t then leb REFRESH d && fitted x 8 (get_or x 7 0) else if u then eqb d INCREMENTAL && all_zero (win x 7 (1 + value_max)) else eqb (get_or x 6 0) 0 && all_zero (win x 7 (1 + value_max)))
        go true u e g =
            let v : Value = win x 8 (get_or x 7 0) in
            rw (same_byte 6 (1 + value_max) 1 (length v ∷ padded v) (omega arith), e, same_byte 7 value_max (length v) (padded v) (omega arith), ← held_is_fitted 8 (get_or x 7 0) h)
            (mix (eqb (get_or x 7 0) (length v)) (same (win x 8 value_max) (padded v)) (leb REFRESH d) (value_sound v))
        go false true e g =
            rw (same_byte 6 (1 + value_max) 2 (zeros (1 + value_max)) (omega arith), g, same-zero 7 (1 + value_max) (omega arith)) (and_comm (all_zero (win x 7 (1 + value_max))) (eqb d INCREMENTAL))
        go false false e g = rw (same_byte 6 (1 + value_max) 0 (zeros (1 + value_max)) (omega arith), same-zero 7 (1 + value_max) (omega arith)) (and-true _)

    pub row_is_formed : same x (enc_row (dec_row x)) && row_sound (dec_row x) ≡ row_formed x
    unfolding enc_row dec_row row_sound row_formed
    row_is_formed = go (eqb (le32 x 0) 0) refl
      where
        bytes : (y : List ℕ) → same x (bytes32 (le32 x 0) ++ (get_or x 4 0 ∷ get_or x 5 0 ∷ y)) ≡ same (win x 6 (2 + value_max)) y
        bytes y =
            same_whole row_width _ h
            ∙ skip_word 0 (4 + value_max) (get_or x 4 0 ∷ get_or x 5 0 ∷ y) (omega arith)
            ∙ rw (same_byte 4 (3 + value_max) (get_or x 4 0) (get_or x 5 0 ∷ y) (omega arith), eq-eqb (get_or x 4 0) (get_or x 4 0) refl, same_byte 5 (2 + value_max) (get_or x 5 0) y (omega arith), eq-eqb (get_or x 5 0) (get_or x 5 0) refl)

        go : (t : Bool) → eqb (le32 x 0) 0 ≡ t → same x (enc_row (if t then no_row else row (le32 x 0) (get_or x 4 0) (get_or x 5 0) (dec_staged x))) && row_sound (if t then no_row else row (le32 x 0) (get_or x 4 0) (get_or x 5 0) (dec_staged x))
            ≡ (if t then all_zero x else is_kind (get_or x 5 0) && staged_formed (get_or x 5 0) x)
        go true e = and-true _ ∙ same-zeros x row_width h
        go false e =
            let n : 1 ≤ le32 x 0 = omega (arith, eqb-false (le32 x 0) 0 e) in
            rw (bytes (staged_bytes (dec_staged x)), le-leb 1 (le32 x 0) n, lt-ltb (get_or x 4 0) key_count (f 4), ← staged_is_formed (get_or x 5 0))
            (and_ahead (same (win x 6 (2 + value_max)) (staged_bytes (dec_staged x))) (is_kind (get_or x 5 0)) (staged_sound (get_or x 5 0) (dec_staged x)))

  -- ---- a key
  module _ (h : length x ≡ key_width) where
    value_is_formed : (same (win x 0 4) (value_mark (dec_value x)) && same (win x 16 value_max) (value_bytes (dec_value x))) && cached_sound (dec_value x) ≡ value_formed x
    unfolding value_formed
    value_is_formed = go (eqb (get_or x 0 0) 1) (eqb (le32 x 0) 0) refl refl
      where
        mix : (a z s v : Bool) → ((a && z) && s) && v ≡ z && (a && (s && v))
        mix a true s v = rw (and-true a) (and_assoc a s v)
        mix a false s v = rw (and-false a)

        absent : same (win x 0 4) (zeros 4) ≡ eqb (le32 x 0) 0
        absent = same-zero 0 4 (omega arith) ∙ zero-le width32 x 0 (omega arith)

        go : (t u : Bool) → eqb (get_or x 0 0) 1 ≡ t → eqb (le32 x 0) 0 ≡ u
            → (same (win x 0 4) (value_mark (if t then some (win x 16 (get_or x 1 0)) else none)) && same (win x 16 value_max) (value_bytes (if t then some (win x 16 (get_or x 1 0)) else none))) && cached_sound (if t then some (win x 16 (get_or x 1 0)) else none)
            ≡ (if u then all_zero (win x 16 value_max) else t && (eqb (le16 x 2) 0 && fitted x 16 (get_or x 1 0)))
        go true true e g = absurd (omega (arith, eqb-true (get_or x 0 0) 1 e, eqb-true (le32 x 0) 0 g))
        go true false e g =
            let v : Value = win x 16 (get_or x 1 0) in
            rw (same_byte 0 3 1 (length v ∷ 0 ∷ 0 ∷ []) (omega arith), e, same_byte 1 2 (length v) (0 ∷ 0 ∷ []) (omega arith), same-zero 2 2 (omega arith), zero-le width16 x 2 (omega arith), ← held_is_fitted 16 (get_or x 1 0) h)
            (mix (eqb (get_or x 1 0) (length v)) (eqb (le16 x 2) 0) (same (win x 16 value_max) (padded v)) (value_sound v))
        go false true e g = rw (absent ∙ g, same-zero 16 value_max (omega arith)) (and-true _)
        go false false e g = rw (absent ∙ g)

    lease_is_formed : (hd : Head) → same (win x 4 12) (lease_bytes (dec_lease x)) && lease_sound hd (dec_lease x) ≡ lease_formed (read_limit hd) hd.next_token x
    unfolding lease_formed
    lease_is_formed hd = go (eqb (le32 x 4) 0) refl
      where
        go : (t : Bool) → eqb (le32 x 4) 0 ≡ t
            → same (win x 4 12) (lease_bytes (if t then none else some (record { token = le32 x 4; until = le64 x 8 }))) && lease_sound hd (if t then none else some (record { token = le32 x 4; until = le64 x 8 }))
            ≡ (if t then eqb (le64 x 8) 0 else ltb (le32 x 4) hd.next_token && leb (le64 x 8) (read_limit hd))
        go true e =
            and-true _
            ∙ same-zero 4 12 (omega arith)
            ∙ rw (win-add x 4 4 8, zero-append, zero-le width32 x 4 (omega arith), e, zero-le width64 x 8 (omega arith))
        go false e =
            let n : le32 x 4 ≡ 0 → ⊥ = eqb-false (le32 x 4) 0 e in
            rw (skip_word 4 8 (bytes64 (le64 x 8)) (omega arith) ∙ same_eight 8 (omega arith), le-leb 1 (le32 x 4) (omega arith))

    pub key_is_formed : (hd : Head) → same x (enc_key (dec_key x)) && key_sound hd (dec_key x) ≡ key_formed (read_limit hd) hd.next_token x
    unfolding enc_key dec_key key_sound key_formed
    key_is_formed hd = go (dec_value x) (dec_lease x) value_is_formed (lease_is_formed hd)
      where
        mix : (m l v p q : Bool) → (m && (l && v)) && (p && q) ≡ ((m && v) && p) && (l && q)
        mix m true v p q = sym (and_assoc (m && v) p q)
        mix m false v p q = rw (and-false m, and-false ((m && v) && p))

        go : (o : Option Value) (l : Option Lease) → (same (win x 0 4) (value_mark o) && same (win x 16 value_max) (value_bytes o)) && cached_sound o ≡ value_formed x
            → same (win x 4 12) (lease_bytes l) && lease_sound hd l ≡ lease_formed (read_limit hd) hd.next_token x
            → same x (value_mark o ++ (lease_bytes l ++ value_bytes o)) && (cached_sound o && lease_sound hd l) ≡ value_formed x && lease_formed (read_limit hd) hd.next_token x
        go o l p q =
            rw (same_whole key_width (value_mark o ++ (lease_bytes l ++ value_bytes o)) h, same-win x 0 4 (12 + value_max) (value_mark o) (lease_bytes l ++ value_bytes o) (length-mark o) (omega arith), same-win x 4 12 value_max (lease_bytes l) (value_bytes o) (length_lease l) (omega arith), ← p, ← q)
            (mix (same (win x 0 4) (value_mark o)) (same (win x 4 12) (lease_bytes l)) (same (win x 16 value_max) (value_bytes o)) (cached_sound o) (lease_sound hd l))

  -- ---- a session
  module _ (h : length x ≡ session_width) (hd : Head) where
    life_is_formed : eqb (get_or x 4 0) (life_mark (dec_life x)) && (same (win x 8 8) (bytes64 (life_time (dec_life x))) && life_sound hd (dec_life x)) ≡ life_formed (write_limit hd) x
    unfolding life_formed
    life_is_formed = go (eqb (get_or x 4 0) 2) refl
      where
        go : (t : Bool) → eqb (get_or x 4 0) 2 ≡ t
            → eqb (get_or x 4 0) (life_mark (if t then Life.Sealed else Life.Open (le64 x 8))) && (same (win x 8 8) (bytes64 (life_time (if t then Life.Sealed else Life.Open (le64 x 8)))) && life_sound hd (if t then Life.Sealed else Life.Open (le64 x 8)))
            ≡ (if t then eqb (le64 x 8) 0 else eqb (get_or x 4 0) 1 && leb (le64 x 8) (write_limit hd))
        go true e = rw (e, same-zero 8 8 (omega arith), zero-le width64 x 8 (omega arith)) (and-true _)
        go false e = rw (same_eight 8 (omega arith))

    pub session_is_formed : same x (enc_session (dec_session x)) && session_sound hd (dec_session x) ≡ session_formed (write_limit hd) hd.next_session x
    unfolding enc_session dec_session session_sound session_formed
    session_is_formed = go (eqb (le32 x 0) 0) refl
      where
        mix : (m z t g c l : Bool) → (m && (z && t)) && (g && (c && l)) ≡ g && (z && (c && (m && (t && l))))
        mix m z t false c l = and-false (m && (z && t))
        mix m false t true c l = rw and-false
        mix m true t true false l = and-false (m && t)
        mix m true t true true l = and_assoc m t l

        used : (le32 x 0 ≡ 0 → ⊥) → (l : Life) → eqb (get_or x 4 0) (life_mark l) && (same (win x 8 8) (bytes64 (life_time l)) && life_sound hd l) ≡ life_formed (write_limit hd) x
            → same x (bytes32 (le32 x 0) ++ (life_mark l ∷ 0 ∷ (bytes16 (le16 x 6) ++ bytes64 (life_time l)))) && (given hd.next_session (le32 x 0) && (leb (le16 x 6) step_max && life_sound hd l))
            ≡ ltb (le32 x 0) hd.next_session && (eqb (get_or x 5 0) 0 && (leb (le16 x 6) step_max && life_formed (write_limit hd) x))
        used z l e =
            let y : List ℕ = bytes16 (le16 x 6) ++ bytes64 (life_time l) in
            let b : same x (bytes32 (le32 x 0) ++ (life_mark l ∷ 0 ∷ y)) ≡ same (win x 4 12) (life_mark l ∷ 0 ∷ y) =
            same_whole session_width (bytes32 (le32 x 0) ++ (life_mark l ∷ 0 ∷ y)) h ∙ skip_word 0 12 (life_mark l ∷ 0 ∷ y) (omega arith) in
            rw (b, same_byte 4 11 (life_mark l) (0 ∷ y) (omega arith), same_byte 5 10 0 y (omega arith), skip 6 2 8 (bytes16 (le16 x 6)) (bytes64 (life_time l)) (bytes_le width16 x f 6 (omega arith)) (omega arith), le-leb 1 (le32 x 0) (omega arith), ← e)
            (mix (eqb (get_or x 4 0) (life_mark l)) (eqb (get_or x 5 0) 0) (same (win x 8 8) (bytes64 (life_time l))) (ltb (le32 x 0) hd.next_session) (leb (le16 x 6) step_max) (life_sound hd l))

        go : (t : Bool) → eqb (le32 x 0) 0 ≡ t
            → same x (enc_session (if t then no_session else session (session_from x))) && session_sound hd (if t then no_session else session (session_from x))
            ≡ (if t then all_zero x else ltb (le32 x 0) hd.next_session && (eqb (get_or x 5 0) 0 && (leb (le16 x 6) step_max && life_formed (write_limit hd) x)))
        go true e = and-true _ ∙ same-zeros x session_width h
        go false e = used (eqb-false (le32 x 0) 0 e) (dec_life x) life_is_formed

  -- ---- the header
  pub head_is_formed : length x ≡ state_size → same (win x 0 head_size) (enc_head (dec_head x)) && head_sound (dec_head x) ≡ head_formed x
  unfolding enc_head dec_head head_formed
  head_is_formed h =
      let q4 : List ℕ = bytes32 (le32 x 20) ++ zeros 40 in
      let q3 : List ℕ = bytes32 (le32 x 16) ++ q4 in
      let q2 : List ℕ = bytes32 (le32 x 12) ++ q3 in
      let q1 : List ℕ = bytes32 (le32 x 8) ++ q2 in
      let e : same (win x 0 head_size) (bytes64 (le64 x 0) ++ q1) ≡ all_zero (win x 24 40) =
      skip 0 8 56 (bytes64 (le64 x 0)) q1 (bytes_le width64 x f 0 (omega arith)) (omega arith)
      ∙ skip_word 8 52 q2 (omega arith)
      ∙ skip_word 12 48 q3 (omega arith)
      ∙ skip_word 16 44 q4 (omega arith)
      ∙ skip_word 20 40 (zeros 40) (omega arith)
      ∙ same-zero 24 40 (omega arith) in
      rw e (and_comm (all_zero (win x 24 40)) (head_sound (dec_head x)))
