-- A staged value has the same mark, length and 64 bytes in its row as a cached one has in its key, so copying them caches it. The rows lie
-- behind the keys, so the first copy does not touch what the second reads.
use mathlib.Core.Path.{◌≡◌, refl, ◌∙◌}
use mathlib.Core.List.{List, [], ◌∷◌}
use mathlib.Core.Option.{none, some}
use Prim.Native.Nat.{ℕ, ◌+◌, ◌*◌, ◌≤◌, ◌<◌}
use native.Mathlib.Omega.{arith}
use lib.ListN.{length}
use lib.Seq.{take_all}
use Rattle.lent.specs.Bytes.{splice, win}
use Rattle.lent.proofs.Splice.{win-splice-after}
use Rattle.lent.proofs.Choices.{zero_one}
use Rattle.machine.specs.Sizes.{key_count, row_count, keys_from, key_width, rows_from, row_width, value_max, value_at, staged_at}
use Rattle.machine.specs.State.{Value, Staged, nothing, staged, DROP, Row, no_row, row, State, row_at, staged_in}
use Rattle.machine.specs.Expiry.{with_keys, set_value}
use Rattle.machine.specs.Effects.{to_cache}
use Rattle.layout.specs.Layout.{padded, enc_row}
use Rattle.layout.specs.Fields.{VALUED, staged_mark}
use Rattle.layout.specs.Holds.{RowFits, Holds}
use Rattle.layout.proofs.Widths.{length-padded}
use Rattle.layout.proofs.Formed.{holds_size}
use Rattle.layout.proofs.Places.{win-at}
use Rattle.layout.proofs.Held.{row_stands}
use Rattle.layout.proofs.Parts.{value_put}

-- a row with the mark of a value has one staged
staged_is : (r : Row) → RowFits r → staged_mark (staged_in r) ≡ VALUED → (v : Value) × (staged_in r ≡ staged v) × (length v ≤ value_max)
staged_is no_row f e = absurd (omega arith)
staged_is (row n k d nothing) f e = absurd (omega arith)
staged_is (row n k d (staged v)) f e = (v, refl, f.staged)
staged_is (row n k d DROP) f e = absurd (omega arith)

-- and otherwise nothing is cached
pub staged_not : (u : Staged) → (staged_mark u ≡ VALUED → ⊥) → to_cache u ≡ none
staged_not nothing f = refl
staged_not (staged v) f = absurd (f refl)
staged_not DROP f = refl

module _ (v : Value) where
  staged_mark_lem : (r : Row) → staged_in r ≡ staged v → win (enc_row r) 6 2 ≡ VALUED ∷ length v ∷ []
  unfolding enc_row win
  staged_mark_lem no_row e = zero_one cc
  staged_mark_lem (row n k d u) e = rw e

  staged_value : (r : Row) → staged_in r ≡ staged v → length v ≤ value_max → win (enc_row r) 8 value_max ≡ padded v
  unfolding enc_row win
  staged_value no_row e h = zero_one cc
  staged_value (row n k d u) e h = rw e (take_all value_max (padded v) (rw (length-padded v h) (omega arith)))

module _ {b : List ℕ} {s : State} (h : Holds b s) (k i : ℕ) (l : k < key_count) (m : i < row_count) where
  abbrev at : ℕ
  at = keys_from + k * key_width

  abbrev from : ℕ
  from = rows_from + i * row_width

  -- mark and length copied, then the value
  abbrev marked : List ℕ
  marked = splice b at (win b (from + 6) 2)

  pub staged_copied : staged_mark (staged_in (row_at s i)) ≡ VALUED
      → Holds (splice marked (value_at k) (win marked (staged_at i) value_max)) (with_keys s (set_value s.keys k (to_cache (staged_in (row_at s i)))))
  staged_copied e =
      let w = staged_is (row_at s i) (row_stands h i m).fits e in
      let mark : win b (from + 6) 2 ≡ VALUED ∷ length w.0 ∷ [] = win-at (row_stands h i m) 6 2 (omega arith) ∙ staged_mark_lem w.0 (row_at s i) w.1 in
      let value : win b (staged_at i) value_max ≡ padded w.0 = win-at (row_stands h i m) 8 value_max (omega arith) ∙ staged_value w.0 (row_at s i) w.1 w.2 in
      let same : win (splice b at (VALUED ∷ length w.0 ∷ [])) (staged_at i) value_max ≡ win b (staged_at i) value_max = win-splice-after b at (VALUED ∷ length w.0 ∷ []) (staged_at i) value_max (omega (arith, holds_size h)) (omega arith) in
      rw (mark, same, value, w.1) (value_put h k l (some w.0) w.2)
