-- A lent buffer is well formed if it has 65,536 bytes, they are exactly the encoding of what they decode to, and that is sound.
-- The one equation on bytes says that free rows and all unused bytes are zero.
use Rattle.std.specs.Prelude.{ℕ, Bool, ◌&&◌, List, length, eqb}
use Rattle.lent.specs.Tables.{same}
use Rattle.machine.specs.Sizes.{state_size}
use Rattle.machine.specs.Sound.{sound}
use Rattle.layout.specs.Layout.{encode, decode}

unfoldable pub well_formed : List ℕ → Bool
well_formed b = eqb (length b) state_size && (same b (encode (decode b)) && sound (decode b))
