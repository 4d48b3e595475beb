-- The lines of an input (01, "The rehearsal").
use Rattle.std.specs.Prelude.{ℕ, List, [], ◌∷◌, map, take, eqb, if◌then◌else◌}
use Rattle.lent.specs.Text.{newline, onto}

-- the most bytes of a line that are handed on: one more than a line may have, so that a longer one stays too long
abbrev pub held_max : ℕ
held_max = 201

-- the lines without their newlines; behind the last newline there is one more if it has a byte
unfoldable pub lines_of : List ℕ → List (List ℕ)
lines_of [] = []
lines_of (b ∷ bs) = let rest = lines_of bs in if eqb b newline then [] ∷ rest else onto b rest

-- the lines as they are handed on
unfoldable pub cut_lines : List ℕ → List (List ℕ)
cut_lines input = map (take held_max) (lines_of input)
