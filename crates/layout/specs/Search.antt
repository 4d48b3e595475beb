-- What a search of a table tells: the first place that passes, or nothing.
use Rattle.std.specs.Prelude.{ℕ, ◌+◌, ◌*◌, ◌<◌, Bool, List, eqb, ltb, if◌then◌else◌, Option, Some, None}
use Rattle.lent.specs.Bytes.{le32}

-- the place i, if it lies within a table of n
abbrev pub found : ℕ → ℕ → Option ℕ
found n i = if ltb i n then Some i else None

-- a place that was found lies within the table
abbrev pub Below : ℕ → Option ℕ → Type 0
Below n (Some i) = i < n
Below n None = Unit

-- record i of those of w bytes at `from` starts with the number n
abbrev pub starts_with : List ℕ → ℕ → ℕ → ℕ → ℕ → Bool
starts_with b from w n i = eqb (le32 b (from + i * w)) n
