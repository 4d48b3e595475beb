-- The test of a row in the bytes.
use Rattle.std.specs.Prelude.{ℕ, ◌+◌, ◌*◌, Bool, false, List, eqb, get_or, if◌then◌else◌}
use Rattle.lent.specs.Bytes.{le32}
use Rattle.machine.specs.Sizes.{rows_from, row_width}

-- taken, of session n or of any where n is 0, and on key k
abbrev pub test_of : ℕ → ℕ → ℕ → ℕ → Bool
test_of n k m j = if eqb m 0 then false else if eqb n 0 then eqb j k else if eqb m n then eqb j k else false

unfoldable pub row_test : List ℕ → ℕ → ℕ → ℕ → Bool
row_test b n k i = test_of n k (le32 b (rows_from + i * row_width)) (get_or b (rows_from + i * row_width + 4) 0)
