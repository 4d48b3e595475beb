-- Rules 3 and 4, tested in the cache's bytes and the book before a command.
use Rattle.std.specs.Prelude.{ℕ, Bool, ◌&&◌, List, eqb, ltb}
use Rattle.machine.specs.Sizes.{session_count}
use Rattle.machine.specs.Tables.{any}
use Rattle.machine.specs.State.{State, session_place}
use Rattle.machine.specs.Test.{differs}
use Rattle.layout.specs.Layout.{decode}
use Rattle.book.specs.Book.{registered, mark}

-- Rule 3: the register has written for session n while it was live
abbrev pub wrote_in : State → List ℕ → ℕ → Bool
wrote_in s b n = ltb (session_place s n) session_count && eqb (mark b (session_place s n)) n

unfoldable pub wrote_for : List ℕ → List ℕ → ℕ → Bool
wrote_for x b n = wrote_in (decode x) b n

-- Rule 4: session n has staged a value that is not the one that the register holds
abbrev pub stale_in : State → List ℕ → ℕ → Bool
stale_in s b n = any (differs (registered b) n) s.rows

unfoldable pub stale_for : List ℕ → List ℕ → ℕ → Bool
stale_for x b n = stale_in (decode x) b n
