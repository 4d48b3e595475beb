-- The records of the state that bytes decode to, by place, and those of their fields that the conditions across records read: they are what
-- stands in the bytes, whatever the bytes are, since a number that is read as 0 is 0.
use Rattle.std.specs.Prelude.{if◌then◌else◌}
use Prim.Native.Nat.{ℕ, ◌+◌, ◌*◌, ◌<◌}
use mathlib.Core.Path.{◌≡◌, refl, sym, ap, ◌∙◌}
use mathlib.Core.Bool.{Bool}
use mathlib.Core.List.{List}
use native.Mathlib.Omega.{arith}
use lib.Dec.{eqb}
use borrow.Author.Tests.{eqb-true}
use Rattle.lent.specs.Bytes.{le32, win}
use Rattle.lent.proofs.Choices.{if_ind}
use Rattle.lent.proofs.Numbers.{width32, le_front, le-win}
use Rattle.lent.proofs.Splice.{get_or-win}
use Rattle.lent.proofs.Tables.{read_tab_at}
use Rattle.machine.specs.Sizes.{key_count, keys_from, key_width, row_count, rows_from, row_width, session_count, sessions_from, session_width}
use Rattle.machine.specs.State.{Key, Row, no_row, row, no_session, blank, key_of, row_at, session_at}
use Rattle.machine.specs.Sound.{token_in, number_in, number_at, token_at}
use Rattle.layout.specs.Layout.{dec_key, dec_row, dec_staged, dec_session, decode}
use Rattle.joins.specs.Joins.{session_numbers, row_session, row_key, row_kind}

-- a number that is read as 0 is 0
zero_read : {A : Type 0} (f : A → ℕ) (n : ℕ) {a b : A} → f a ≡ 0 → f b ≡ n → f (if eqb n 0 then a else b) ≡ n
zero_read f n p q = if_ind (λ x. f x ≡ n) (eqb n 0) (λ e. p ∙ sym (eqb-true n 0 e)) (λ e. q)

number_decoded : (x : List ℕ) → number_in (dec_session x) ≡ le32 x 0
unfolding dec_session
number_decoded x = zero_read number_in (le32 x 0) refl refl

token_decoded : (x : List ℕ) → token_in (dec_key x).lease ≡ le32 x 4
unfolding dec_key
token_decoded x = zero_read token_in (le32 x 4) refl refl

module _ (s : List ℕ) where
  -- the bytes of a record
  abbrev pub key_bytes : ℕ → List ℕ
  key_bytes k = win s (keys_from + k * key_width) key_width

  abbrev pub row_bytes : ℕ → List ℕ
  row_bytes i = win s (rows_from + i * row_width) row_width

  abbrev pub session_bytes : ℕ → List ℕ
  session_bytes j = win s (sessions_from + j * session_width) session_width

  pub key_at : (k : ℕ) → k < key_count → key_of (decode s) k ≡ dec_key (key_bytes k)
  unfolding decode
  key_at k h = read_tab_at dec_key key_width key_count s keys_from blank k h

  pub row_at_lem : (i : ℕ) → i < row_count → row_at (decode s) i ≡ dec_row (row_bytes i)
  unfolding decode
  row_at_lem i h = read_tab_at dec_row row_width row_count s rows_from no_row i h

  pub session_at_lem : (j : ℕ) → j < session_count → session_at (decode s) j ≡ dec_session (session_bytes j)
  unfolding decode
  session_at_lem j h = read_tab_at dec_session session_width session_count s sessions_from no_session j h

  pub number-at : (j : ℕ) → j < session_count → number_at (decode s) j ≡ session_numbers s j
  number-at j h = ap number_in (session_at_lem j h) ∙ number_decoded (session_bytes j) ∙ le_front width32 s (sessions_from + j * session_width) session_width (omega arith)

  pub token-at : (k : ℕ) → k < key_count → token_at (decode s) k ≡ le32 s (keys_from + k * key_width + 4)
  token-at k h = ap (λ (y : Key). token_in y.lease) (key_at k h) ∙ token_decoded (key_bytes k) ∙ le-win width32 s (keys_from + k * key_width) key_width 4 (omega arith)

  -- row i, free or not
  abbrev pub row_or : Bool → ℕ → Row
  row_or t i = if t then no_row else row (row_session s i) (row_key s i) (row_kind s i) (dec_staged (row_bytes i))

  pub row_is : (i : ℕ) → i < row_count → row_at (decode s) i ≡ row_or (eqb (row_session s i) 0) i
  unfolding dec_row
  row_is i h =
      row_at_lem i h
      ∙ rw (le_front width32 s (rows_from + i * row_width) row_width (omega arith), get_or-win s (rows_from + i * row_width) row_width 4 (omega arith), get_or-win s (rows_from + i * row_width) row_width 5 (omega arith))
