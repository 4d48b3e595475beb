-- An answer as numbers: its word and what goes with it, as the machine's `Words` have them, and where a HIT's value stands in the lent state.
use Rattle.std.specs.Prelude.{ℕ}
use Rattle.machine.specs.Words.{word_of, detail_of}
use Rattle.machine.specs.declared.Answer.{Answer}
use Rattle.words.specs.declared.Numbers.{Numbers}

-- the word of a refusal
abbrev pub REFUSED : ℕ
REFUSED = 0

-- 0 for every other answer
abbrev pub place_of : Answer → ℕ
place_of Answer.Ready = 0
place_of (Answer.Session n) = 0
place_of (Answer.Hit a n) = a
place_of Answer.Ask = 0
place_of (Answer.Backoff w) = 0
place_of (Answer.Lease t) = 0
place_of Answer.Stored = 0
place_of Answer.Ignored = 0
place_of Answer.Held = 0
place_of Answer.Granted = 0
place_of Answer.Aborted = 0
place_of Answer.Staged = 0
place_of Answer.Repeated = 0
place_of Answer.Dropped = 0
place_of Answer.Validated = 0
place_of Answer.Lost = 0
place_of Answer.Done = 0
place_of Answer.Undone = 0
place_of Answer.Evicted = 0
place_of Answer.Empty = 0
place_of Answer.Ticked = 0
place_of (Answer.Value n) = 0
place_of Answer.None = 0
place_of (Answer.Refused n) = 0

abbrev pub numbers_of : Answer → Numbers
numbers_of a = record { word = word_of a; detail = detail_of a; place = place_of a }
