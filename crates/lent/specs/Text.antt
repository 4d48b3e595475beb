-- Text as bytes: those that cut it, and a byte put before the first of its pieces.
use Rattle.std.specs.Prelude.{ℕ, List, [], ◌∷◌}

-- between the fields of a line
abbrev pub space : ℕ
space = 32

-- the byte that ends a line
abbrev pub newline : ℕ
newline = 10

-- b in front of the first piece
abbrev pub onto : ℕ → List (List ℕ) → List (List ℕ)
onto b [] = (b ∷ []) ∷ []
onto b (x ∷ xs) = (b ∷ x) ∷ xs
