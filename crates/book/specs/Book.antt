-- The book: what the rehearsal remembers beside the cache, in a lent buffer. Whether START has answered READY; the lines read, and those with a rule
-- broken; for each key what the register holds, and what it held when an I lease was last granted on it (rule 1); for each place of the sessions'
-- table the last session there for which the register has written while it was live (rule 3). A book of zeros is a new one.
use Rattle.std.specs.Prelude.{ℕ, ◌+◌, ◌*◌, ◌%◌, ◌^◌, min, Bool, not, List, [], ◌∷◌, length, ◌==◌, nat_lt, slice_index, if◌then◌else◌}
use Rattle.lent.specs.Bytes.{le32, bytes32, le64, bytes64, win, splice}
use Rattle.machine.specs.Sizes.{key_count, value_max}
use Rattle.machine.specs.State.{Value}

-- where each part stands
abbrev pub book_size : ℕ
book_size = 33824

abbrev pub started_at : ℕ
started_at = 0

abbrev pub lines_at : ℕ
lines_at = 8

abbrev pub broken_at : ℕ
broken_at = 16

abbrev pub notes_from : ℕ
notes_from = 32

abbrev pub note_width : ℕ
note_width = 65

abbrev pub marks_from : ℕ
marks_from = 33312

abbrev pub mark_width : ℕ
mark_width = 4

-- START has answered READY
unfoldable pub started : List ℕ → Bool
started b = not (slice_index b started_at == 0)

unfoldable pub with_started : List ℕ → List ℕ
with_started b = splice b started_at (1 ∷ [])

-- the lines read, and those with a rule broken, modulo 2^64
unfoldable pub lines_in : List ℕ → ℕ
lines_in b = le64 b lines_at

unfoldable pub broken_in : List ℕ → ℕ
broken_in b = le64 b broken_at

-- a note: the length of a value, and its bytes; 512 of them, for each key what the register holds, then for each key what it held at the last grant
abbrev pub note_at : ℕ → ℕ
note_at i = notes_from + i * note_width

unfoldable pub note : List ℕ → ℕ → Value
note b i = win b (note_at i + 1) (min (slice_index b (note_at i)) value_max)

unfoldable pub with_note : List ℕ → ℕ → Value → List ℕ
with_note b i v = splice b (note_at i) (length v ∷ v)

-- what the register holds for key k, and what it held when an I lease was last granted on it; nothing for what is no key
unfoldable pub registered : List ℕ → ℕ → Value
registered b k = if nat_lt k key_count then note b k else []

unfoldable pub granted : List ℕ → ℕ → Value
granted b k = if nat_lt k key_count then note b (key_count + k) else []

unfoldable pub with_registered : List ℕ → ℕ → Value → List ℕ
with_registered b k v = if nat_lt k key_count then with_note b k v else b

unfoldable pub with_granted : List ℕ → ℕ → Value → List ℕ
with_granted b k v = if nat_lt k key_count then with_note b (key_count + k) v else b

-- the last session at place i of the sessions' table for which the register has written while it was live
unfoldable pub mark : List ℕ → ℕ → ℕ
mark b i = le32 b (marks_from + i * mark_width)

unfoldable pub with_mark : List ℕ → ℕ → ℕ → List ℕ
with_mark b i n = splice b (marks_from + i * mark_width) (bytes32 n)

-- one line more is read, and one more has a rule broken
unfoldable pub counted : List ℕ → ℕ → List ℕ
counted b rule =
    let b' = splice b lines_at (bytes64 ((lines_in b + 1) % 2 ^ 64)) in
    if rule == 0 then b' else splice b' broken_at (bytes64 ((broken_in b' + 1) % 2 ^ 64))
