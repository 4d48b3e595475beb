-- What is written to a row piece by piece is written whole: the pieces lie side by side.
use mathlib.Core.Path.{◌≡◌, refl}
use mathlib.Core.Bool.{false}
use mathlib.Core.List.{List, [], ◌∷◌, ◌++◌}
use Prim.Native.Nat.{ℕ, ◌+◌, ◌*◌, ◌≤◌, ◌<◌, ◌^◌}
use native.Mathlib.Omega.{arith}
use lib.ListN.{length, set}
use Rattle.lent.specs.Bytes.{bytes32, splice, zeros}
use Rattle.lent.proofs.Splice.{splice-next}
use Rattle.machine.specs.Sizes.{row_count, rows_from, row_width, staged_at, value_max}
use Rattle.machine.specs.State.{Value, row, nothing, staged, DROP, State, free_row, row_at}
use Rattle.machine.specs.Expiry.{with_rows}
use Rattle.machine.specs.Effects.{restaged}
use Rattle.layout.specs.Layout.{padded, enc_row}
use Rattle.layout.specs.Fields.{VALUED, DROPPED}
use Rattle.layout.specs.Holds.{Holds}
use Rattle.layout.proofs.Widths.{length-padded}
use Rattle.layout.proofs.Formed.{holds_size}
use Rattle.layout.proofs.Held.{row_stands}
use Rattle.layout.proofs.Parts.{staged_put}

-- what is staged, in two pieces
staged_written : (b : List ℕ) (a m n : ℕ) (y : List ℕ) → length y ≡ value_max → a + row_width ≤ length b
    → splice (splice b (a + 6) (m ∷ n ∷ [])) (a + 8) y ≡ splice b (a + 6) (m ∷ n ∷ y)
staged_written b a m n y e l =
    let o : a + 8 ≡ a + 6 + 2 = omega arith in
    rw o (splice-next b (m ∷ n ∷ []) y (a + 6) 2 refl (rw e (omega arith)))

module _ {b : List ℕ} {s : State} (h : Holds b s) (i : ℕ) (l : i < row_count) where
  -- a new row, in three pieces
  pub row_put : (n k d : ℕ) → 1 ≤ n → n < 2 ^ 32
      → Holds (splice (splice (splice b (rows_from + i * row_width) (bytes32 n)) (rows_from + i * row_width + 4) (k ∷ d ∷ [])) (rows_from + i * row_width + 6) (zeros 66)) (with_rows s (set s.rows i (row n k d nothing)))
  unfolding enc_row
  row_put n k d g f =
      let a : ℕ = rows_from + i * row_width in
      let m : a + row_width ≤ length b = omega (arith, holds_size h) in
      rw (splice-next b (bytes32 n) (k ∷ d ∷ []) a 4 refl (omega arith), splice-next b (bytes32 n ++ (k ∷ d ∷ [])) (zeros 66) a 6 refl (omega arith))
      ((row_stands h i l).store (row n k d nothing) (record { given = g; session = f; staged = tt }))

  pub value_staged : (v : Value) → length v ≤ value_max → free_row (row_at s i) ≡ false
      → Holds (splice (splice b (rows_from + i * row_width + 6) (VALUED ∷ length v ∷ [])) (staged_at i) (padded v)) (with_rows s (set s.rows i (restaged (staged v) (row_at s i))))
  value_staged v f g =
      rw (staged_written b (rows_from + i * row_width) VALUED (length v) (padded v) (length-padded v f) (omega (arith, holds_size h)))
      (staged_put h i l (staged v) f g)

  pub drop_staged : free_row (row_at s i) ≡ false
      → Holds (splice (splice b (rows_from + i * row_width + 6) (DROPPED ∷ 0 ∷ [])) (staged_at i) (zeros value_max)) (with_rows s (set s.rows i (restaged DROP (row_at s i))))
  drop_staged g =
      rw (staged_written b (rows_from + i * row_width) DROPPED 0 (zeros value_max) refl (omega (arith, holds_size h)))
      (staged_put h i l DROP tt g)
