-- What a read and its answers come to.
use Rattle.std.specs.Prelude.{ℕ, ◌≤◌, ◌≡◌, Bool, true, false, List, ◌++◌, take, Option, Some, None, Result, Ok, Err}
use Rattle.feed.specs.Lines.{held_max}
use Rattle.feed.specs.Answers.{Open, fed}
use Rattle.book.specs.Memory.{Memory}
use Rattle.script.specs.Input.{answer_line, rehearsed}

-- a chunk is answered and written, or a write has failed
abbrev pub Poured : {E : Type 0} → Open Memory → List ℕ → (ℕ → Open Memory) → Result ℕ E → Type 0
Poured o chunk now (Ok held) = (now held ≡ (fed answer_line o chunk).world) × (held ≤ held_max)
Poured o chunk now (Err e) = Unit

-- what was read, the front of the chunk, is answered and written; or the input has ended; or a read or a write has failed
abbrev pub Turned : {E : Type 0} → Open Memory → ℕ → List ℕ → (ℕ → Open Memory) → Result (Option ℕ) E → Type 0
Turned o before chunk now (Ok (Some held)) = (n : ℕ) × ((now held ≡ (fed answer_line o (take n chunk)).world) × (held ≤ held_max))
Turned o before chunk now (Ok None) = now before ≡ o
Turned o before chunk now (Err e) = Unit

-- the end of an input is reached: the world is that of its rehearsal, whose text is what was handed to writes before and the front of `out`
abbrev pub Rehearsed : Memory → Memory → List ℕ → Bool → Type 0
Rehearsed w now out true =
    (input : List ℕ) × ((now ≡ (rehearsed w input).world) × ((before : List ℕ) × ((put : ℕ) × (before ++ take put out ≡ (rehearsed w input).text))))
Rehearsed w now out false = Unit
