-- What joins records, on the bytes: the numbers and tokens that the conditions compare are those of the bytes, and the four conditions on rows
-- are one test of each row beside the sessions, its key and the rows before it.
use Rattle.std.specs.Prelude.{if◌then◌else◌}
use Prim.Native.Nat.{ℕ, ◌+◌, ◌*◌, ◌<◌}
use mathlib.Core.Path.{◌≡◌, refl, sym, ap, ◌∙◌}
use mathlib.Core.Bool.{Bool, true, false, not, ◌&&◌, and-true, and-false}
use mathlib.Core.List.{List}
use native.Mathlib.Omega.{arith}
use lib.Dec.{eqb}
use Rattle.lent.specs.Bytes.{Bytes, le32}
use Rattle.lent.specs.Tables.{every, some}
use Rattle.lent.proofs.Walks.{all-every, every_both, every_cong, some_cong}
use Rattle.machine.specs.Sizes.{key_count, keys_from, key_width, row_count, rows_from, row_width, session_count}
use Rattle.machine.specs.Words.{INVALIDATE}
use Rattle.machine.specs.State.{Staged, Row, no_row, row, State, row_at}
use Rattle.machine.specs.Sound.{distinct, number_at, token_at, numbers_distinct, tokens_distinct, live_row, rows_live, once, rows_once, shares, rows_alone, leaseless, rows_leaseless, joined}
use Rattle.layout.specs.Layout.{dec_staged, decode}
use Rattle.order.proofs.Numbers.{distinct_cong}
use Rattle.joins.specs.Joins.{tokens, session_numbers, row_session, row_key, row_kind, is_live, pair_ok, join_ok}
use Rattle.state.proofs.Fields.{row_bytes, number-at, token-at, row_or, row_is}

-- a free row agrees with any row
once-free : (r : Row) → once r no_row ≡ true
once-free no_row = refl
once-free (row n k d u) = refl

shares-free : (r : Row) → shares r no_row ≡ true
shares-free no_row = refl
shares-free (row n k d u) = refl

module _ (s : List ℕ) where
  abbrev σ : State
  σ = decode s

  numbers-by_bytes : numbers_distinct σ ≡ distinct (session_numbers s) session_count
  unfolding numbers_distinct
  numbers-by_bytes = distinct_cong (number_at σ) (session_numbers s) session_count (number-at s)

  tokens-by_bytes : tokens_distinct σ ≡ distinct (tokens s) key_count
  unfolding tokens_distinct
  tokens-by_bytes =
      distinct_cong (token_at σ) (tokens s) key_count
      (λ k h. let q : keys_from + k * key_width + 4 ≡ keys_from + 4 + k * key_width = omega arith in token-at s k h ∙ ap (le32 s) q)

  live_by_bytes : (n : ℕ) → some (λ j. eqb (number_at σ j) n) session_count ≡ is_live s n
  unfolding is_live
  live_by_bytes n = some_cong _ _ session_count (λ j h. ap (λ (m : ℕ). eqb m n) (number-at s j h))

  -- row j beside one of session n on key k
  pair_by_bytes : (n k d : ℕ) (u : Staged) (j : ℕ) → pair_ok s n k d j ≡ once (row_or s (eqb (row_session s j) 0) j) (row n k d u) && shares (row_or s (eqb (row_session s j) 0) j) (row n k d u)
  unfolding pair_ok
  pair_by_bytes n k d u j = go (eqb (row_session s j) 0)
    where
      mix : (a b c : Bool) → (if b then not a && c else true) ≡ not (a && b) && (if b then c else true)
      mix true true c = refl
      mix true false c = refl
      mix false true c = refl
      mix false false c = refl

      go : (t : Bool) → (if t then true else if eqb (row_key s j) k then not (eqb (row_session s j) n) && (eqb (row_kind s j) INVALIDATE && eqb d INVALIDATE) else true)
          ≡ once (row_or s t j) (row n k d u) && shares (row_or s t j) (row n k d u)
      go true = refl
      go false = mix (eqb (row_session s j) n) (eqb (row_key s j) k) (eqb (row_kind s j) INVALIDATE && eqb d INVALIDATE)

  -- row r, at place i, beside the sessions, the rows before it and its key
  abbrev agrees : ℕ → Row → Bool
  agrees i r = live_row σ r && (every (λ j. once (row_at σ j) r) i && (every (λ j. shares (row_at σ j) r) i && leaseless σ r))

  module _ (f : Bytes s) where
    row_joins : (i : ℕ) → i < row_count → agrees i (row_at σ i) ≡ join_ok s i
    unfolding join_ok
    row_joins i h = rw (row_is s i h) (go (eqb (row_session s i) 0))
      where
        mix : (a o b c : Bool) → a && (o && (b && c)) ≡ (if c then if a then o && b else false else false)
        mix true o b true = ap (λ (t : Bool). o && t) (and-true b)
        mix true o b false = ap (λ (t : Bool). o && t) (and-false b) ∙ and-false o
        mix false o b true = refl
        mix false o b false = refl

        pairs : every (pair_ok s (row_session s i) (row_key s i) (row_kind s i)) i ≡ every (λ j. once (row_at σ j) (row_or s false i)) i && every (λ j. shares (row_at σ j) (row_or s false i)) i
        pairs =
            every_cong _ _ i (λ j b. pair_by_bytes (row_session s i) (row_key s i) (row_kind s i) (dec_staged (row_bytes s i)) j ∙ rw (row_is s j (omega arith)))
            ∙ sym (every_both _ _ i)

        go : (t : Bool) → agrees i (row_or s t i)
            ≡ (if t then true else if eqb (le32 s (keys_from + row_key s i * key_width + 4)) 0 then if is_live s (row_session s i) then every (pair_ok s (row_session s i) (row_key s i) (row_kind s i)) i else false else false)
        go true =
            rw (all-every (λ j. once (row_at σ j) no_row) i (λ j b. once-free (row_at σ j)), all-every (λ j. shares (row_at σ j) no_row) i (λ j b. shares-free (row_at σ j)))
        go false =
            rw (live_by_bytes (row_session s i), token-at s (row_key s i) (f (rows_from + i * row_width + 4)), pairs)
            (mix (is_live s (row_session s i)) (every (λ j. once (row_at σ j) (row_or s false i)) i) (every (λ j. shares (row_at σ j) (row_or s false i)) i) (eqb (le32 s (keys_from + row_key s i * key_width + 4)) 0))

    rows_join : rows_live σ && (rows_once σ && (rows_alone σ && rows_leaseless σ)) ≡ every (join_ok s) row_count
    unfolding rows_live rows_once rows_alone rows_leaseless
    rows_join =
        let live : ℕ → Bool = λ i. live_row σ (row_at σ i) in
        let only : ℕ → Bool = λ i. every (λ j. once (row_at σ j) (row_at σ i)) i in
        let alone : ℕ → Bool = λ i. every (λ j. shares (row_at σ j) (row_at σ i)) i in
        let unleased : ℕ → Bool = λ i. leaseless σ (row_at σ i) in
        rw (
          every_both alone unleased row_count,
          every_both only (λ i. alone i && unleased i) row_count,
          every_both live (λ i. only i && (alone i && unleased i)) row_count,
        )
        (every_cong (λ i. agrees i (row_at σ i)) (join_ok s) row_count row_joins)

    pub joined-by_bytes : joined σ ≡ distinct (session_numbers s) session_count && (distinct (tokens s) key_count && every (join_ok s) row_count)
    unfolding joined
    joined-by_bytes = rw (numbers-by_bytes, tokens-by_bytes, rows_join)
