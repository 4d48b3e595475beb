-- SHOW by the check of the state: bytes that are not well formed are refused, and well-formed ones hold the state that they decode to.
use mathlib.Core.Path.{◌≡◌}
use mathlib.Core.Bool.{true, false}
use mathlib.Core.List.{List, []}
use Prim.Native.Nat.{ℕ}
use Rattle.machine.specs.Step.{show}
use Rattle.machine.specs.Words.{STATE}
use Rattle.machine.specs.declared.Answer.{Answer}
use Rattle.layout.specs.Layout.{decode}
use Rattle.layout.specs.WellFormed.{well_formed}
use Rattle.show.specs.Show.{show_of}

module _ (b : List ℕ) where
  pub unformed_shows : well_formed b ≡ false → (n k : ℕ) → show_of b n k ≡ record { answer = Answer.Refused STATE; at = 0; value = [] }
  unfolding show_of
  unformed_shows e n k = rw e

  pub formed_shows : well_formed b ≡ true → (n k : ℕ) → show_of b n k ≡ show (decode b) n k
  unfolding show_of
  formed_shows e n k = rw e
