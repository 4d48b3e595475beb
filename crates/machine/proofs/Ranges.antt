-- The test of a range: a number that passes lies within it, and one within it passes.
use mathlib.Core.Path.{◌≡◌}
use mathlib.Core.Bool.{true}
use Prim.Native.Nat.{ℕ}
use lib.Dec.{leb}
use borrow.Author.Tests.{leb-true, le-leb}
use Rattle.lent.proofs.Choices.{and_yes}
use Rattle.machine.specs.Words.{within}
use Rattle.machine.specs.WellFormed.{Within}

pub within_means : (low high n : ℕ) → within low high n ≡ true → Within low high n
within_means low high n e = let r = and_yes (leb low n) (leb n high) e in (leb-true low n r.0, leb-true n high r.1)

pub means_within : (low high n : ℕ) → Within low high n → within low high n ≡ true
means_within low high n r = rw (le-leb low n r.0, le-leb n high r.1)
