-- What the methods of a cursor ask and promise.
use Rattle.std.specs.Prelude.{ℕ, ◌+◌, ◌≡◌, ◌≤◌, List, length}
use Rattle.lent.specs.Bytes.{splice}
use Rattle.replies.specs.declared.Cursor.{Cursor}

-- n more bytes fit
abbrev pub Room : Cursor → ℕ → Type 0
Room c n = c.at + n ≤ length c.out.now

-- x is written at c, and `next` is the place behind it, in the same buffer
pub record Put (c : Cursor) (x : List ℕ) (next : Cursor) : Type 0 where
  pub same : next.out.ghost_name ≡ c.out.ghost_name
  pub whole : length next.out.now ≡ length c.out.now
  pub place : next.at ≡ c.at + length x
  pub bytes : next.out.now ≡ splice c.out.now c.at x
