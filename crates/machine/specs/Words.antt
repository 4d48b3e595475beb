-- The words of document 01: each answer's word by number and what goes with it; refusal numbers; kinds and operations.
use Rattle.std.specs.Prelude.{Bool, ◌&&◌, List, [], ◌∷◌, ℕ, leb}
use Rattle.machine.specs.declared.Refusal.{Refusal}
use Rattle.machine.specs.declared.Answer.{Answer}
use Rattle.machine.specs.declared.Command.{Command}
use Rattle.machine.specs.declared.Command.TheVariants.{Begin, Get, Fill, Quar, Stage, Delta, Validate, Done, Undo, Evict, Tick}

-- READY, then the words in the order of the commands, then SHOW's; 0 for a refusal
abbrev pub word_of : Answer → ℕ
word_of (Answer.Refused e) = 0
word_of Answer.Ready = 1
word_of (Answer.Session n) = 2
word_of (Answer.Hit a n) = 3
word_of Answer.Ask = 4
word_of (Answer.Backoff w) = 5
word_of (Answer.Lease t) = 6
word_of Answer.Stored = 7
word_of Answer.Ignored = 8
word_of Answer.Held = 9
word_of Answer.Granted = 10
word_of Answer.Aborted = 11
word_of Answer.Staged = 12
word_of Answer.Repeated = 13
word_of Answer.Dropped = 14
word_of Answer.Validated = 15
word_of Answer.Lost = 16
word_of Answer.Done = 17
word_of Answer.Undone = 18
word_of Answer.Evicted = 19
word_of Answer.Empty = 20
word_of Answer.Ticked = 21
word_of (Answer.Value n) = 22
word_of Answer.None = 23

-- the words that rules and printing ask for
abbrev pub READY : ℕ
READY = 1

abbrev pub SESSION : ℕ
SESSION = 2

abbrev pub HIT : ℕ
HIT = 3

abbrev pub BACKOFF : ℕ
BACKOFF = 5

abbrev pub LEASE : ℕ
LEASE = 6

abbrev pub STORED : ℕ
STORED = 7

abbrev pub DONE : ℕ
DONE = 17

abbrev pub UNDONE : ℕ
UNDONE = 18

-- 01, "Refusal numbers"
abbrev pub refusal_number : Refusal → ℕ
refusal_number Refusal.State = 1
refusal_number Refusal.Clock = 2
refusal_number Refusal.Arg = 3
refusal_number Refusal.Long = 4
refusal_number Refusal.NoSession = 5
refusal_number Refusal.Sealed = 6
refusal_number Refusal.NotSealed = 7
refusal_number Refusal.NoLease = 8
refusal_number Refusal.Kind = 9
refusal_number Refusal.Ahead = 10
refusal_number Refusal.Full = 11
refusal_number Refusal.Room = 12
refusal_number Refusal.Numbers = 13

-- the session, token, wait, length or refusal number that goes with the word; 0 where nothing does
abbrev pub detail_of : Answer → ℕ
detail_of (Answer.Refused e) = refusal_number e
detail_of Answer.Ready = 0
detail_of (Answer.Session n) = n
detail_of (Answer.Hit a n) = n
detail_of Answer.Ask = 0
detail_of (Answer.Backoff w) = w
detail_of (Answer.Lease t) = t
detail_of Answer.Stored = 0
detail_of Answer.Ignored = 0
detail_of Answer.Held = 0
detail_of Answer.Granted = 0
detail_of Answer.Aborted = 0
detail_of Answer.Staged = 0
detail_of Answer.Repeated = 0
detail_of Answer.Dropped = 0
detail_of Answer.Validated = 0
detail_of Answer.Lost = 0
detail_of Answer.Done = 0
detail_of Answer.Undone = 0
detail_of Answer.Evicted = 0
detail_of Answer.Empty = 0
detail_of Answer.Ticked = 0
detail_of (Answer.Value n) = n
detail_of Answer.None = 0

-- the refusals by the names of the document's table
abbrev pub STATE : Refusal
STATE = Refusal.State

abbrev pub CLOCK : Refusal
CLOCK = Refusal.Clock

abbrev pub ARG : Refusal
ARG = Refusal.Arg

abbrev pub LONG : Refusal
LONG = Refusal.Long

abbrev pub NO-SESSION : Refusal
NO-SESSION = Refusal.NoSession

abbrev pub SEALED : Refusal
SEALED = Refusal.Sealed

abbrev pub NOT-SEALED : Refusal
NOT-SEALED = Refusal.NotSealed

abbrev pub NO-LEASE : Refusal
NO-LEASE = Refusal.NoLease

abbrev pub KIND : Refusal
KIND = Refusal.Kind

abbrev pub AHEAD : Refusal
AHEAD = Refusal.Ahead

abbrev pub FULL : Refusal
FULL = Refusal.Full

abbrev pub ROOM : Refusal
ROOM = Refusal.Room

abbrev pub NUMBERS : Refusal
NUMBERS = Refusal.Numbers

-- the kinds of quarantine
abbrev pub INVALIDATE : ℕ
INVALIDATE = 1

abbrev pub REFRESH : ℕ
REFRESH = 2

abbrev pub INCREMENTAL : ℕ
INCREMENTAL = 3

-- from low to high
abbrev pub within : ℕ → ℕ → ℕ → Bool
within low high n = leb low n && leb n high

abbrev pub is_kind : ℕ → Bool
is_kind d = within INVALIDATE INCREMENTAL d

-- the operations of DELTA
abbrev pub APPEND : ℕ
APPEND = 1

abbrev pub PREPEND : ℕ
PREPEND = 2

abbrev pub INCREMENT : ℕ
INCREMENT = 3

abbrev pub DECREMENT : ℕ
DECREMENT = 4

abbrev pub is_operation : ℕ → Bool
is_operation o = within APPEND DECREMENT o

-- the words with which each accepted command can be answered
abbrev pub words_of : Command → List ℕ
words_of Begin = 2 ∷ []
words_of (Get n k) = 3 ∷ 4 ∷ 5 ∷ 6 ∷ []
words_of (Fill t k) = 7 ∷ 8 ∷ []
words_of (Quar n k d) = 9 ∷ 10 ∷ 11 ∷ []
words_of (Stage n i k) = 12 ∷ 13 ∷ []
words_of (Delta n i k o) = 12 ∷ 13 ∷ 14 ∷ []
words_of (Validate n m) = 15 ∷ 16 ∷ []
words_of (Done n) = 17 ∷ []
words_of (Undo n) = 18 ∷ []
words_of (Evict k) = 19 ∷ 20 ∷ []
words_of Tick = 21 ∷ []
