-- What stands in the buffers that are lent.
use Rattle.std.specs.Prelude.{ℕ, ◌+◌, ◌-◌, ◌≤◌, ◌<◌, ◌≡◌, ◌⊎◌, List, length, take}
use Rattle.lent.specs.Bytes.{splice, win}
use Rattle.feed.specs.Lines.{held_max}
use Rattle.feed.specs.Answers.{Answered, Open, fed}
use Rattle.book.specs.Memory.{Memory, memory_of}
use Rattle.replies.specs.Replies.{line_room}
use Rattle.script.specs.Input.{answer_line}

-- between two bytes: the first `held` bytes of `line` are held
abbrev pub opened : List ℕ → List ℕ → List ℕ → ℕ → Open Memory
opened cache book line held = record { world = memory_of cache book; held = take held line }

-- the line's buffer has its size, and no more is held than fits it
pub record HeldFits (line : List ℕ) (held : ℕ) : Type 0 where
  pub size : length line ≡ held_max
  pub most : held ≤ held_max

-- the text stands at place `put` of `out`, which becomes `after`, and ends at place `next`
pub record Printed (text out : List ℕ) (put : ℕ) (after : List ℕ) (next : ℕ) : Type 0 where
  pub bytes : after ≡ splice out put text
  pub place : next ≡ put + length text
  pub fits : next ≤ length out

-- what stands after an answer, and its text printed
pub record Delivered {W : Type 0} (s : Answered W) (now : W) (out : List ℕ) (put : ℕ) (after : List ℕ) (next : ℕ) : Type 0 where
  pub world : now ≡ s.world
  pub printed : Printed s.text out put after next

-- the bytes of the chunk from place `from` to place `next` are answered, and before each there was room for another output line
pub record Reaches (o : Open Memory) (chunk : List ℕ) (from next : ℕ) (now : Open Memory) (out after : List ℕ) (put : ℕ) : Type 0 where
  pub answered : Delivered (fed answer_line o (win chunk from (next - from))) now out 0 after put
  pub within : (from ≤ next) × (next ≤ length chunk)
  pub room : (k : ℕ) → k < next - from → length (fed answer_line o (win chunk from k)).text + line_room ≤ length out

-- and no further: the chunk ends there, or there is no more room
pub record Stretched (o : Open Memory) (chunk : List ℕ) (from next : ℕ) (now : Open Memory) (out after : List ℕ) (put : ℕ) : Type 0 where
  pub reaches : Reaches o chunk from next now out after put
  pub stops : (next ≡ length chunk) ⊎ (length out < put + line_room)
