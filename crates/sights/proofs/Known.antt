-- A number other than 0 is live where a place has it; 0 is asked by anyone, and known.
use Rattle.std.specs.Prelude.{Option, Some, None, is_none}
use mathlib.Core.Path.{◌≡◌, refl}
use mathlib.Core.Bool.{false, not, ◌&&◌}
use Prim.Native.Nat.{ℕ}
use lib.Dec.{eqb}
use lib.ListN.{length}
use borrow.Author.Tests.{eq-eqb, ne_eqb}
use Rattle.machine.specs.Sizes.{session_count}
use Rattle.machine.specs.State.{State, free, session_place}
use Rattle.machine.specs.Refusals.{not_live}
use Rattle.layout.specs.Search.{found}
use Rattle.layout.proofs.Slots.{slot_by, session_by}

module _ (s : State) (n : ℕ) where
  pub known_zero : n ≡ 0 → (not (eqb n 0) && not_live s n) ≡ false
  known_zero e = rw (eq-eqb n 0 e)

  -- by what the search for the number told
  pub known_by : (n ≡ 0 → ⊥) → length s.sessions ≡ session_count → {r : Option ℕ} → found session_count (session_place s n) ≡ r → (not (eqb n 0) && not_live s n) ≡ free (slot_by s r)
  known_by z l f = rw (ne_eqb n 0 z, session_by s n l f)

-- what the search told is nothing where no session has the number
pub none_free : (s : State) (r : Option ℕ) → is_none r ≡ free (slot_by s r)
none_free s (Some i) = refl
none_free s None = refl
