-- The tests of the bytes, all together, are the definition of well formed: the encoding is compared table by table and record by record, `sound`
-- goes by the same records, and each record's two conditions are its form.
use Rattle.std.specs.Prelude.{Option, Some, None, is_some, MatchOption}
use Prim.Native.Nat.{ℕ, ◌+◌, ◌*◌, ◌≤◌}
use mathlib.Core.Path.{◌≡◌, refl, sym, ap, ◌∙◌}
use mathlib.Core.Bool.{Bool, true, false, ◌&&◌, and_assoc}
use mathlib.Core.List.{List, ◌++◌}
use native.Mathlib.Omega.{arith}
use lib.ListN.{length, take, drop, length-drop}
use lib.Seq.{take_all}
use borrow.Author.Tests.{eq-eqb, ne_eqb}
use Rattle.lent.specs.Bytes.{Bytes, win, zeros}
use Rattle.lent.specs.Tables.{every, all_zero, same, tab_of, read_tab}
use Rattle.lent.proofs.Choices.{and_swap, and_ahead}
use Rattle.lent.proofs.Equal.{same_split, same-zeros}
use Rattle.lent.proofs.Splice.{bytes_win, length-win}
use Rattle.lent.proofs.Tables.{length_read_lem, place-fits, same_tab_at}
use Rattle.lent.proofs.Walks.{every_both, every_cong, every_ap}
use Rattle.machine.specs.Sizes.{state_size, head_size, key_count, keys_from, key_width, row_count, rows_from, row_width, session_count, sessions_from, session_width, rest_from, rest_size}
use Rattle.machine.specs.State.{Head, State, key_of, row_at, session_at}
use Rattle.machine.specs.Sound.{head_sound, key_sound, row_sound, session_sound, distinct, joined, sized, sound}
use Rattle.layout.specs.Layout.{enc_head, dec_head, enc_key, dec_key, enc_row, dec_row, enc_session, dec_session, encode, decode}
use Rattle.layout.specs.WellFormed.{well_formed}
use Rattle.joins.specs.Joins.{tokens, session_numbers, join_ok}
use Rattle.state.specs.Forms.{head_formed, key_formed, row_formed, session_formed, read_limit, write_limit, keys_formed, rows_formed, sessions_formed, keys_fit, sessions_fit, rows_fit, tables_fit, state_formed}
use Rattle.state.proofs.Widths.{key_wide, row_wide, session_wide}
use Rattle.state.proofs.Records.{head_is_formed, key_is_formed, row_is_formed, session_is_formed}
use Rattle.state.proofs.Fields.{key_bytes, row_bytes, session_bytes, key_at, row_at_lem, session_at_lem}
use Rattle.state.proofs.Joined.{joined-by_bytes}

-- what is told of a buffer that is opened, where w says whether it may be
pub opened_told : {A : Type 0} {w : Bool} (P : A → Type 0) (r : Option A) → MatchOption r (w ≡ false) (λ b. (w ≡ true) × P b) → is_some r ≡ w
opened_told P (Some b) f = sym f.0
opened_told P None f = sym f

pub wrong_length : (s : List ℕ) → (length s ≡ state_size → ⊥) → well_formed s ≡ false
unfolding well_formed
wrong_length s n = rw (ne_eqb (length s) state_size n)

module _ (s : List ℕ) (h : length s ≡ state_size) (f : Bytes s) where
  abbrev σ : State
  σ = decode s

  abbrev hd : Head
  hd = dec_head s

  -- ---- the bytes, table by table
  head_long : length (enc_head hd) ≡ head_size
  unfolding enc_head
  head_long = refl

  front : take head_size s ≡ win s 0 head_size
  unfolding win
  front = refl

  rest_zero : same (drop rest_from s) (zeros rest_size) ≡ all_zero (win s rest_from rest_size)
  unfolding win
  rest_zero =
      let l : length (drop rest_from s) ≡ rest_size = simp length-drop (omega arith) in
      same-zeros (drop rest_from s) rest_size l ∙ ap all_zero (sym (take_all rest_size (drop rest_from s) (omega arith)))

  same-by_records : same s (encode σ) ≡
      same (win s 0 head_size) (enc_head hd)
      && (every (λ k. same (key_bytes s k) (enc_key (dec_key (key_bytes s k)))) key_count
      && (every (λ i. same (row_bytes s i) (enc_row (dec_row (row_bytes s i)))) row_count
      && (every (λ j. same (session_bytes s j) (enc_session (dec_session (session_bytes s j)))) session_count
      && all_zero (win s rest_from rest_size))))
  unfolding encode decode
  same-by_records =
      let q2 : List ℕ = tab_of enc_session (read_tab dec_session session_width session_count (drop sessions_from s)) ++ zeros rest_size in
      let q1 : List ℕ = tab_of enc_row (read_tab dec_row row_width row_count (drop rows_from s)) ++ q2 in
      let q0 : List ℕ = tab_of enc_key (read_tab dec_key key_width key_count (drop keys_from s)) ++ q1 in
      same_split s (enc_head hd) q0 head_size head_long (omega arith)
      ∙ rw (
        front,
        same_tab_at enc_key dec_key key_width key_wide key_count s keys_from q1 (omega arith),
        same_tab_at enc_row dec_row row_width row_wide row_count s rows_from q2 (omega arith),
        same_tab_at enc_session dec_session session_width session_wide session_count s sessions_from (zeros rest_size) (omega arith),
        rest_zero,
      )

  -- ---- sound, record by record
  sized_yes : sized σ ≡ true
  unfolding sized decode
  sized_yes =
      rw (length_read_lem dec_key key_width key_count (drop keys_from s), length_read_lem dec_session session_width session_count (drop sessions_from s), length_read_lem dec_row row_width row_count (drop rows_from s))

  sound-by_records : sound σ ≡
      head_sound hd
      && (every (λ k. key_sound hd (dec_key (key_bytes s k))) key_count
      && (every (λ i. row_sound (dec_row (row_bytes s i))) row_count
      && (every (λ j. session_sound hd (dec_session (session_bytes s j))) session_count
      && joined σ)))
  unfolding sound decode
  sound-by_records =
      rw (
        sized_yes,
        every_ap (key_sound hd) (key_of σ) (λ k. dec_key (key_bytes s k)) key_count (key_at s),
        every_ap row_sound (row_at σ) (λ i. dec_row (row_bytes s i)) row_count (row_at_lem s),
        every_ap (session_sound hd) (session_at σ) (λ j. dec_session (session_bytes s j)) session_count (session_at_lem s),
      )

  -- ---- the two together, for a table of n records of w bytes
  table_formed : {A : Type 0} (enc : A → List ℕ) (dec : List ℕ → A) (fine : A → Bool) (formed : List ℕ → Bool) (from w n : ℕ) → from + n * w ≤ state_size
      → ((x : List ℕ) → Bytes x → length x ≡ w → same x (enc (dec x)) && fine (dec x) ≡ formed x)
      → every (λ i. same (win s (from + i * w) w) (enc (dec (win s (from + i * w) w)))) n && every (λ i. fine (dec (win s (from + i * w) w))) n ≡ every (λ i. formed (win s (from + i * w) w)) n
  table_formed enc dec fine formed from w n e g =
      every_both _ _ n
      ∙ every_cong _ _ n (λ i l. let p = place-fits i n w l in g (win s (from + i * w) w) (bytes_win s (from + i * w) w (omega arith) f) (length-win s (from + i * w) w (omega arith)))

  -- each table's records with what joins them
  line : (h k r q z n t j : Bool) → h && (k && (r && (q && (z && (n && (t && j)))))) ≡ h && (z && ((q && n) && ((k && t) && (r && j))))
  line h k r q z n t j =
      rw (and_ahead q z (n && (t && j)), and_ahead r z (q && (n && (t && j))), and_ahead k z (r && (q && (n && (t && j)))), and_ahead r q (n && (t && j)), and_ahead k q (r && (n && (t && j))), and_ahead r n (t && j), and_ahead k n (r && (t && j)), and_ahead r t j, and_assoc q n ((k && t) && (r && j)), and_assoc k t (r && j))

  pub formed_is_well_formed : state_formed s ≡ well_formed s
  unfolding state_formed tables_fit keys_fit keys_formed sessions_fit sessions_formed rows_fit rows_formed well_formed
  formed_is_well_formed =
      let k = table_formed enc_key dec_key (key_sound hd) (key_formed (read_limit hd) hd.next_token) keys_from key_width key_count (omega arith) (λ x b l. key_is_formed x b l hd) in
      let r = table_formed enc_row dec_row row_sound row_formed rows_from row_width row_count (omega arith) row_is_formed in
      let j = table_formed enc_session dec_session (session_sound hd) (session_formed (write_limit hd) hd.next_session) sessions_from session_width session_count (omega arith) (λ x b l. session_is_formed x b l hd) in
      sym
      (rw (eq-eqb (length s) state_size h, same-by_records, sound-by_records, and_swap, head_is_formed s f h, and_swap, k, and_swap, r, and_swap, j, joined-by_bytes s f)
      (line (head_formed s) (keys_formed s) (rows_formed s) (sessions_formed s) (all_zero (win s rest_from rest_size)) (distinct (session_numbers s) session_count) (distinct (tokens s) key_count) (every (join_ok s) row_count)))
