-- The buffer of the line that is not yet whole: its first bytes are those that came since the last newline.
use Rattle.std.specs.Prelude.{ℕ, ◌+◌, Bool, ◌||◌, List, [], ◌∷◌, length, set, eqb, leb, if◌then◌else◌}
use Rattle.lent.specs.Text.{newline}
use Rattle.feed.specs.Lines.{held_max}
use Rattle.feed.specs.declared.Taken.{Taken}

-- there is no place for another byte
abbrev pub is_full : List ℕ → ℕ → Bool
is_full line held = leb held_max held || leb (length line) held

-- what the byte b comes to, where `held` bytes are held
unfoldable pub taken : List ℕ → ℕ → ℕ → Taken
taken line held b = if eqb b newline then Taken.Line held else if is_full line held then Taken.Held held else Taken.Held (held + 1)

-- what stands in the buffer after it
unfoldable pub line_after : List ℕ → ℕ → ℕ → List ℕ
line_after line held b = if eqb b newline then line else if is_full line held then line else set line held b

-- a line's buffer, and how many bytes are held at its front
pub record Buffer : Type 0 where
  pub line : List ℕ
  pub held : ℕ

abbrev pub buffer : List ℕ → ℕ → Buffer
buffer line held = record { line = line; held = held }

-- none are held behind a whole line
abbrev pub held_after : Taken → ℕ
held_after (Taken.Held n) = n
held_after (Taken.Line n) = 0

-- the buffer after a byte, and after bytes in a row
abbrev pub pushed : Buffer → ℕ → Buffer
pushed k b = buffer (line_after k.line k.held b) (held_after (taken k.line k.held b))

unfoldable pub pushed_all : Buffer → List ℕ → Buffer
pushed_all k [] = k
pushed_all k (b ∷ bs) = pushed_all (pushed k b) bs
