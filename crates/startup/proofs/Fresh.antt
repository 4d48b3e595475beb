-- The bytes of the fresh state: its tables are all free, so all is zero behind the header, and in the header four numbers are written.
use mathlib.Core.Path.{◌≡◌, refl, sym, ◌∙◌}
use mathlib.Core.List.{List, ◌++◌}
use Prim.Native.Nat.{ℕ, ◌+◌, ◌*◌}
use lib.ListN.{length, replicate, length-replicate, replicate-append-replicate}
use Rattle.lent.specs.Bytes.{bytes32, splice, zeros}
use Rattle.lent.specs.Tables.{tab_of}
use Rattle.lent.proofs.Splice.{splice-whole}
use Rattle.lent.proofs.Tables.{tab_zeros}
use Rattle.machine.specs.Sizes.{key_count, session_count, row_count, state_size, head_size, key_width, row_width, session_width, rest_size, read_life_field, write_life_field, next_session_field, next_token_field}
use Rattle.machine.specs.State.{Head, blank, no_session, no_row, fresh}
use Rattle.layout.specs.Layout.{enc_head, enc_key, enc_row, enc_session, encode}

abbrev fresh_head : ℕ → ℕ → Head
fresh_head read_life write_life = record { clock = 0; read_life = read_life; write_life = write_life; next_session = 1; next_token = 1 }

free_keys : tab_of enc_key (replicate key_count blank) ≡ zeros (key_count * key_width)
unfolding enc_key
free_keys = tab_zeros enc_key key_width key_count blank refl

free_rows : tab_of enc_row (replicate row_count no_row) ≡ zeros (row_count * row_width)
unfolding enc_row
free_rows = tab_zeros enc_row row_width row_count no_row refl

free_sessions : tab_of enc_session (replicate session_count no_session) ≡ zeros (session_count * session_width)
unfolding enc_session
free_sessions = tab_zeros enc_session session_width session_count no_session refl

-- three stretches of zeros and a fourth
zeros_join : (x p q r : List ℕ) (a b c d : ℕ) → p ≡ zeros a → q ≡ zeros b → r ≡ zeros c → x ++ (p ++ (q ++ (r ++ zeros d))) ≡ x ++ zeros (a + (b + (c + d)))
zeros_join x p q r a b c d e f g = rw (e, f, g, replicate-append-replicate, replicate-append-replicate, replicate-append-replicate)

-- all that stands behind the header
abbrev behind_head : ℕ
behind_head = key_count * key_width + (row_count * row_width + (session_count * session_width + rest_size))

fresh_bytes : (read_life write_life : ℕ) → encode (fresh read_life write_life) ≡ enc_head (fresh_head read_life write_life) ++ zeros behind_head
unfolding encode fresh
fresh_bytes read_life write_life =
    let keys = tab_of enc_key (replicate key_count blank) in
    let rows = tab_of enc_row (replicate row_count no_row) in
    let sessions = tab_of enc_session (replicate session_count no_session) in
    zeros_join (enc_head (fresh_head read_life write_life)) keys rows sessions (key_count * key_width) (row_count * row_width) (session_count * session_width) rest_size
    free_keys free_rows free_sessions

-- four numbers written into zeros, whatever stands behind the header
head_written : (read_life write_life : ℕ) (q : List ℕ)
    → splice (splice (splice (splice (zeros head_size ++ q) read_life_field (bytes32 read_life)) write_life_field (bytes32 write_life)) next_session_field (bytes32 1)) next_token_field (bytes32 1) ≡ enc_head (fresh_head read_life write_life) ++ q
unfolding enc_head splice
head_written read_life write_life q = refl

pub fresh-written : (b : List ℕ) (read_life write_life : ℕ) → length b ≡ state_size
    → splice (splice (splice (splice (splice b 0 (zeros state_size)) read_life_field (bytes32 read_life)) write_life_field (bytes32 write_life)) next_session_field (bytes32 1)) next_token_field (bytes32 1) ≡ encode (fresh read_life write_life)
fresh-written b read_life write_life l =
    go (splice b 0 (zeros state_size)) (zeros behind_head) (splice-whole b (zeros state_size) (l ∙ sym (length-replicate {A = ℕ} state_size 0)) ∙ sym (replicate-append-replicate {A = ℕ} head_size behind_head 0)) ∙ sym (fresh_bytes read_life write_life)
  where
    go : (c q : List ℕ) → c ≡ zeros head_size ++ q
        → splice (splice (splice (splice c read_life_field (bytes32 read_life)) write_life_field (bytes32 write_life)) next_session_field (bytes32 1)) next_token_field (bytes32 1) ≡ enc_head (fresh_head read_life write_life) ++ q
    go c q e = rw e (head_written read_life write_life q)
