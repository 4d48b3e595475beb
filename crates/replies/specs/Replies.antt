-- The lines that the rehearsal prints. 01, "The rehearsal": "Each output line is line number, word, detail (`-` if none), number of the rule
-- broken or 0. A refusal prints REFUSED and its number .. The end line has lines read, and lines with a rule broken."
use Rattle.std.specs.Prelude.{ℕ, Bool, ◌||◌, List, [], ◌∷◌, ◌++◌, eqb, get_or, if◌then◌else◌}
use Rattle.lent.specs.Text.{space, newline}
use Rattle.counts.specs.Count.{decimal}
use Rattle.hex_text.specs.Hex.{hex_of}
use Rattle.machine.specs.Words.{SESSION, HIT, BACKOFF, LEASE}
use Rattle.words.specs.Numbers.{REFUSED}
use Rattle.replies.specs.Text.{ascii}

-- the room that a line is given; none takes more
abbrev pub line_room : ℕ
line_room = 256

-- ---- words

-- the rehearsal's own, behind the cache's: a register write, and a line that can't be read
abbrev pub WRITTEN : ℕ
WRITTEN = 24

abbrev pub UNREADABLE : ℕ
UNREADABLE = 25

-- how many words there are, and the most bytes of one
abbrev pub word_count : ℕ
word_count = 26

abbrev pub word_max : ℕ
word_max = 10

-- by number: those of the answers as `word_of` has them, and the rehearsal's own
unfoldable pub words : List (List ℕ)
words =
    ascii "REFUSED"
    ∷ ascii "READY"
    ∷ ascii "SESSION"
    ∷ ascii "HIT"
    ∷ ascii "ASK"
    ∷ ascii "BACKOFF"
    ∷ ascii "LEASE"
    ∷ ascii "STORED"
    ∷ ascii "IGNORED"
    ∷ ascii "HELD"
    ∷ ascii "GRANTED"
    ∷ ascii "ABORTED"
    ∷ ascii "STAGED"
    ∷ ascii "REPEATED"
    ∷ ascii "DROPPED"
    ∷ ascii "VALIDATED"
    ∷ ascii "LOST"
    ∷ ascii "DONE"
    ∷ ascii "UNDONE"
    ∷ ascii "EVICTED"
    ∷ ascii "EMPTY"
    ∷ ascii "TICKED"
    ∷ ascii "VALUE"
    ∷ ascii "NONE"
    ∷ ascii "WRITTEN"
    ∷ ascii "UNREADABLE"
    ∷ []

-- any other number is as the last
unfoldable pub name_of : ℕ → List ℕ
name_of word = get_or words word (ascii "UNREADABLE")

-- ---- numbers and details

-- the most bytes of what is printed of a number or a value
abbrev pub detail_max : ℕ
detail_max = 128

-- a number in decimal; unlike `decimal` it stays folded where lines are compared
unfoldable pub printed : ℕ → List ℕ
printed n = decimal n

-- REFUSED, SESSION, BACKOFF and LEASE go with a number
abbrev pub numbered : ℕ → Bool
numbered word = eqb word REFUSED || eqb word SESSION || eqb word BACKOFF || eqb word LEASE

-- HIT with a value
abbrev pub valued : ℕ → Bool
valued word = eqb word HIT

-- and the others with nothing
unfoldable pub detailed : ℕ → ℕ → List ℕ → List ℕ
detailed word detail value =
    if numbered word then printed detail else if valued word then hex_of value else ascii "-"

-- ---- lines

-- a field and the byte behind it
abbrev pub field : List ℕ → ℕ → List ℕ
field x after = x ++ (after ∷ [])

-- an output line
unfoldable pub replied : ℕ → ℕ → ℕ → List ℕ → ℕ → List ℕ
replied line word detail value rule =
    field (printed line) space ++ field (name_of word) space ++ field (detailed word detail value) space ++ field (printed rule) newline

-- the end line
unfoldable pub ended : ℕ → ℕ → List ℕ
ended lines broken = field (ascii "end") space ++ field (printed lines) space ++ field (printed broken) newline
