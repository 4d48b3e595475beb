-- What is well formed: bytes that hold a sound state, and no others. A state that fits is read back from its bytes as it was, so its bytes
-- are well formed exactly if it is sound.
use mathlib.Core.Path.{◌≡◌, refl, sym, ap, ◌∙◌}
use mathlib.Core.Bool.{true}
use mathlib.Core.List.{List}
use Prim.Native.Nat.{ℕ}
use lib.Dec.{eqb}
use lib.ListN.{length}
use borrow.Author.Tests.{eqb-true}
use Rattle.lent.specs.Tables.{same}
use Rattle.lent.proofs.Choices.{and_yes}
use Rattle.lent.proofs.Equal.{same_eq, same_refl}
use Rattle.machine.specs.Sizes.{state_size}
use Rattle.machine.specs.State.{State}
use Rattle.machine.specs.Sound.{sound}
use Rattle.layout.specs.Layout.{encode, decode}
use Rattle.layout.specs.WellFormed.{well_formed}
use Rattle.layout.specs.Holds.{Fits, Holds}
use Rattle.layout.proofs.Widths.{length-encode}
use Rattle.layout.proofs.Places.{decode-encode}
use Rattle.layout.proofs.Fitting.{sound-fits}

-- ---- a state's bytes

-- a state that fits has well-formed bytes exactly if it is sound
pub formed_sound : (s : State) → Fits s → well_formed (encode s) ≡ sound s
unfolding well_formed
formed_sound s f = rw (length-encode s f, decode-encode s f, same_refl (encode s))

pub sound_formed : (s : State) → sound s ≡ true → well_formed (encode s) ≡ true
sound_formed s e = formed_sound s (sound-fits s e) ∙ e

-- states that have the same bytes are one
pub encode_one : (s t : State) → Fits s → Fits t → encode s ≡ encode t → s ≡ t
encode_one s t f g e = sym (decode-encode s f) ∙ ap decode e ∙ decode-encode t g

-- ---- well-formed bytes

pub record Formed (b : List ℕ) : Type 0 where
  pub size : length b ≡ state_size
  pub bytes : b ≡ encode (decode b)
  pub sound : sound (decode b) ≡ true

pub formed : (b : List ℕ) → well_formed b ≡ true → Formed b
unfolding well_formed
formed b e =
    let a = and_yes (eqb (length b) state_size) _ e in
    let c = and_yes (same b (encode (decode b))) _ a.1 in
    record { size = eqb-true (length b) state_size a.0; bytes = same_eq b (encode (decode b)) c.0; sound = c.1 }

-- ---- the state that bytes hold

pub holds_decoded : (b : List ℕ) → well_formed b ≡ true → Holds b (decode b)
holds_decoded b e = let f = formed b e in record { bytes = f.bytes; fits = sound-fits (decode b) f.sound }

pub holds-encoded : (s : State) → Fits s → Holds (encode s) s
holds-encoded s f = record { bytes = refl; fits = f }

module _ {b : List ℕ} {s : State} (h : Holds b s) where
  pub holds_size : length b ≡ state_size
  holds_size = ap length h.bytes ∙ length-encode s h.fits

  pub holds_is : decode b ≡ s
  holds_is = ap decode h.bytes ∙ decode-encode s h.fits
