-- A key's value told by its first word, whose least byte is the mark and whose rest is the length: with the mark 0 the length has to be 0, with the
-- mark 1 at most 64; in both cases the bytes from the length on are 0.
use Prim.Native.Nat.{ℕ, ◌+◌, ◌*◌, ◌-◌, ◌/◌, ◌%◌, ◌≤◌, ◌<◌}
use mathlib.Core.Path.{◌≡◌}
use mathlib.Core.Bool.{false}
use mathlib.Core.Logic.{⊎_elim}
use mathlib.Core.List.{List}
use native.Mathlib.Omega.{arith}
use lib.ListN.{get_or}
use borrow.Author.Tests.{eq-eqb, ne_eqb, le-leb, lt-leb}
use Rattle.lent.specs.Bytes.{Bytes, le16, le32, win}
use Rattle.lent.specs.Tables.{all_zero}
use Rattle.machine.specs.Sizes.{value_max}
use Rattle.order.proofs.Numbers.{same_or}
use Rattle.state.specs.Forms.{fitted, value_formed}

module _ (x : List ℕ) (f : Bytes x) (word : ℕ) (is : word ≡ le32 x 0) where
  mark_is : word % 256 ≡ get_or x 0 0
  mark_is = omega (arith, is, f 0, f 1, f 2, f 3)

  length_is : word / 256 ≡ get_or x 1 0 + le16 x 2 * 256
  length_is = omega (arith, is, f 0, f 1, f 2, f 3)

  -- neither mark
  value_unmarked : (word ≡ 0 → ⊥) → (get_or x 0 0 ≡ 1 → ⊥) → value_formed x ≡ false
  unfolding value_formed
  value_unmarked u m = rw (← is, ne_eqb word 0 u, ne_eqb (get_or x 0 0) 1 m)

  pub value_mark_lem : 1 < word % 256 → value_formed x ≡ false
  value_mark_lem h = value_unmarked (λ e. omega (arith, e, h)) (λ e. omega (arith, e, mark_is, h))

  pub value_too_long : word % 256 * value_max < word / 256 → value_formed x ≡ false
  unfolding value_formed fitted
  value_too_long h =
      let u : word ≡ 0 → ⊥ = λ e. omega (arith, e, h) in
      ⊎_elim
      (λ m. ⊎_elim
      (λ z. rw (← is, ne_eqb word 0 u, eq-eqb (get_or x 0 0) 1 m, eq-eqb (le16 x 2) 0 z, lt-leb (get_or x 1 0) value_max (omega (arith, m, z, mark_is, length_is, h))))
      (λ z. rw (← is, ne_eqb word 0 u, eq-eqb (get_or x 0 0) 1 m, ne_eqb (le16 x 2) 0 z))
      (same_or (le16 x 2) 0))
      (value_unmarked u)
      (same_or (get_or x 0 0) 1)

  pub value_fits : word % 256 ≤ 1 → word / 256 ≤ word % 256 * value_max → value_formed x ≡ all_zero (win x (16 + word / 256) (value_max - word / 256))
  unfolding value_formed fitted
  value_fits m h =
      ⊎_elim
      (λ e. let n : word / 256 ≡ 0 = omega (arith, e) in rw (← is, eq-eqb word 0 e, n))
      (λ u. let one : get_or x 0 0 ≡ 1 = omega (arith, mark_is, length_is, m, h, u) in
      let none : le16 x 2 ≡ 0 = omega (arith, mark_is, length_is, m, h) in
      let n : word / 256 ≡ get_or x 1 0 = omega (arith, length_is, none) in
      let low : get_or x 1 0 ≤ value_max = omega (arith, n, m, h) in
      rw (← is, ne_eqb word 0 u, eq-eqb (get_or x 0 0) 1 one, eq-eqb (le16 x 2) 0 none, n, le-leb (get_or x 1 0) value_max low))
      (same_or word 0)
