-- An input answered line by line: as a whole, and as its bytes come.
use Rattle.std.specs.Prelude.{ℕ, List, [], ◌∷◌, ◌++◌, take, eqb, if◌then◌else◌}
use Rattle.lent.specs.Text.{newline}
use Rattle.feed.specs.Lines.{held_max}

-- what stands after an answer, and the answer's text
pub record Answered (W : Type 0) : Type 0 where
  pub world : W
  pub text : List ℕ

-- the same behind an earlier text
abbrev pub behind : {W : Type 0} → List ℕ → Answered W → Answered W
behind t s = record { world = s.world; text = t ++ s.text }

-- lines answered in turn, the texts one behind the other
unfoldable pub answers : {W : Type 0} → (W → List ℕ → Answered W) → W → List (List ℕ) → Answered W
answers answer w [] = record { world = w; text = [] }
answers answer w (l ∷ ls) = let a = answer w l in behind a.text (answers answer a.world ls)

-- the end of the input: what is held is a line if it has a byte
unfoldable pub last : {W : Type 0} → (W → List ℕ → Answered W) → W → List ℕ → Answered W
last answer w [] = record { world = w; text = [] }
last answer w (b ∷ bs) = answer w (b ∷ bs)

-- between two bytes: the world, and what came since the last newline
pub record Open (W : Type 0) : Type 0 where
  pub world : W
  pub held : List ℕ

-- a byte: a newline has the held bytes answered as a line, any other is held
unfoldable pub byte : {W : Type 0} → (W → List ℕ → Answered W) → Open W → ℕ → Answered (Open W)
byte answer o b =
    let a = answer o.world o.held in
    if eqb b newline then record { world = record { world = a.world; held = [] }; text = a.text }
    else record { world = record { world = o.world; held = take held_max (o.held ++ b ∷ []) }; text = [] }

-- bytes in turn
unfoldable pub fed : {W : Type 0} → (W → List ℕ → Answered W) → Open W → List ℕ → Answered (Open W)
fed answer o [] = record { world = o; text = [] }
fed answer o (b ∷ bs) = let s = byte answer o b in behind s.text (fed answer s.world bs)
