-- The word of the theorems on START: a world that begins with lent bytes.
use Rattle.std.specs.Prelude.{false, List, [], ℕ}
use Rattle.machine.specs.World.{World}
use Rattle.layout.specs.Layout.{decode}

-- its cache is what the bytes say, and its register is empty
abbrev pub world_on : List ℕ → World
world_on b = record { state = decode b; register = λ k. []; began = λ k. []; since = λ t k. []; wrote = λ n. false }
