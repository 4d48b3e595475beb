-- Chunks one behind the other are one input, and at its end the world and what was written are those of its rehearsal.
use Rattle.std.specs.Prelude.{Option, Some, None, Result, Ok, Err}
use Rattle.std.proofs.Common.{ℕ, ◌≡◌, ◌++◌, ◌∙◌, ◌≤◌, ap, Bool, true, false, List, length, take, arith}
use Rattle.lent.proofs.Splice.{take-splice}
use Rattle.feed.specs.Lines.{held_max}
use Rattle.feed.specs.Answers.{Answered, Open, behind, fed}
use Rattle.feed.proofs.Cut.{fed-append}
use Rattle.book.specs.Memory.{Memory}
use Rattle.script.specs.Input.{answer_line, finished, rehearsed, nothing_read}
use Rattle.script.specs.Buffers.{Printed, Delivered}
use Rattle.script.proofs.Whole.{fed-ended}
use Rattle.rehearse.specs.Turns.{Poured, Turned, Rehearsed}

-- what `pour` tells, as `turn` tells it
abbrev pub told_on : {E : Type 0} → Result ℕ E → Result (Option ℕ) E
told_on (Ok held) = Ok (Some held)
told_on (Err e) = Err e

-- what `pour` says of the front of a chunk is what `turn` says of the chunk
pub poured_turned : {E : Type 0} (o : Open Memory) (before n : ℕ) (chunk : List ℕ) (now : ℕ → Open Memory) (r : Result ℕ E) → Poured o (take n chunk) now r → Turned o before chunk now (told_on r)
poured_turned o before n chunk now (Ok held) p = (n, p)
poured_turned o before n chunk now (Err e) p = tt

-- what `turn` told, of a turn that goes on and of one that ends the input
pub turned_on : {E : Type 0} (o : Open Memory) (before n : ℕ) (chunk : List ℕ) (now : ℕ → Open Memory) (r : Result (Option ℕ) E) → r ≡ Ok (Some n) → Turned o before chunk now r
    → (k : ℕ) × ((now n ≡ (fed answer_line o (take k chunk)).world) × (n ≤ held_max))
turned_on o before n chunk now r e t = rw e at t

pub turned_ended : {E : Type 0} (o : Open Memory) (before : ℕ) (chunk : List ℕ) (now : ℕ → Open Memory) (r : Result (Option ℕ) E) → r ≡ Ok None → Turned o before chunk now r → now before ≡ o
turned_ended o before chunk now r e t = rw e at t

-- what has been read so far
abbrev pub ReadSoFar : Open Memory → Open Memory → Type 0
ReadSoFar o now = (input : List ℕ) × (now ≡ (fed answer_line o input).world)

pub read_more : (o now then : Open Memory) (more : List ℕ) → ReadSoFar o now → then ≡ (fed answer_line now more).world → ReadSoFar o then
read_more o now then more r e = (r.0 ++ more, e ∙ rw (fed-append answer_line o r.0 more, r.1))

pub read_no_more : (o now then : Open Memory) → ReadSoFar o now → then ≡ now → ReadSoFar o then
read_no_more o now then r e = (r.0, e ∙ r.1)

-- the front of what a text is printed on is the text
printed_front : (text out after : List ℕ) (next : ℕ) → Printed text out 0 after next → take next after ≡ text
printed_front text out after next p =
    let e : length text ≡ next = let q = p.place in omega arith in
    rw p.bytes (take-splice out text next e)

-- whether or not the last write succeeds
pub read_ends : (w : Memory) (now : Open Memory) (after : Memory) (out out' : List ℕ) (next : ℕ) (b : Bool) → ReadSoFar (nothing_read w) now
    → Delivered (finished now.world now.held) after out 0 out' next → Rehearsed w after out' b
read_ends w now after out out' next false r s = tt
read_ends w now after out out' next true r s =
    let f : Answered (Open Memory) = fed answer_line (nothing_read w) r.0 in
    let e : behind f.text (finished now.world now.held) ≡ rehearsed w r.0 = rw r.1 (fed-ended w r.0) in (
      r.0,
      (
        s.world ∙ ap (λ (x : Answered Memory). x.world) e,
        (f.text, (next, rw (printed_front _ out out' next s.printed) (ap (λ (x : Answered Memory). x.text) e))),
      ),
    )
