-- The masks of the bytes behind a value: a byte of the first half is 0, and one of the second has every bit.
use Rattle.std.proofs.Common.{◌≡◌, ℕ, ◌+◌, ◌-◌, ◌≤◌, ◌<◌, List, ◌++◌, replicate, get_or, ◌∙◌, arith}
use Rattle.std.proofs.lemmas.List.{get_or_append_left, get_or-append_right, get_or-replicate}
use lib.ListN.{length-replicate}
use Rattle.machine.specs.Sizes.{value_max}

module _ {masks : List ℕ} (filled : masks ≡ replicate value_max 0 ++ replicate value_max 255) (j : ℕ) where
  pub mask_zero : j < value_max → get_or masks j 0 ≡ 0
  mask_zero l = rw filled (get_or_append_left (replicate value_max 0) (replicate value_max 255) 0 j l ∙ get_or-replicate value_max j 0 0 l)

  pub mask_one : value_max ≤ j → j < value_max + value_max → get_or masks j 0 ≡ 255
  mask_one a b = rw filled (get_or-append_right (replicate value_max 0) (replicate value_max 255) value_max j 0 (length-replicate {A = ℕ} value_max 0) a ∙ get_or-replicate value_max (j - value_max) 255 0 (omega arith))
