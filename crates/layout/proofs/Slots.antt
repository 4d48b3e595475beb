-- The session of a number, told by the search for it: the one that stands where the number was found, and none where nothing was.
use Rattle.std.specs.Prelude.{Option, Some, None}
use mathlib.Core.Path.{◌≡◌, refl, ◌∙◌}
use mathlib.Core.Bool.{true, false}
use Prim.Native.Nat.{ℕ}
use lib.ListN.{length}
use Rattle.lent.proofs.Choices.{clash}
use Rattle.machine.specs.Sizes.{session_count}
use Rattle.machine.specs.State.{Slot, no_session, session, State, numbered, session_place, session_of, session_at}
use Rattle.layout.specs.Fields.{session_in}
use Rattle.layout.specs.Search.{found}
use Rattle.layout.proofs.Search.{found_entry, found_passes, nothing_entry}

abbrev pub slot_by : State → Option ℕ → Slot
slot_by s (Some i) = session (session_in (session_at s i))
slot_by s None = no_session

pub session_by : (s : State) (n : ℕ) → length s.sessions ≡ session_count → {r : Option ℕ} → found session_count (session_place s n) ≡ r → session_of s n ≡ slot_by s r
session_by s n l f = go _ f
  where
    live : (e : Slot) → numbered n e ≡ true → e ≡ session (session_in e)
    live no_session q = clash false q refl
    live (session x) q = refl

    go : (r : Option ℕ) → found session_count (session_place s n) ≡ r → session_of s n ≡ slot_by s r
    go (Some i) f = found_entry (numbered n) no_session s.sessions session_count i f ∙ live (session_at s i) (found_passes (numbered n) no_session s.sessions session_count i l f)
    go None f = nothing_entry (numbered n) no_session s.sessions session_count l f
