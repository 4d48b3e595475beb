-- A stretch of the chunk, byte by byte: the bytes taken so far are answered and held as the definitions say, and a byte more is its step.
use mathlib.Core.Path.{◌≡◌, refl, sym, ap, ◌∙◌}
use mathlib.Core.Logic.{⊎_elim}
use mathlib.Core.List.{List, [], ◌++◌}
use Prim.Native.Nat.{ℕ, ◌+◌, ◌-◌, ◌≤◌, ◌<◌}
use native.Mathlib.Nat.{eq-or-lt_of_le}
use native.Mathlib.Omega.{arith}
use lib.ListN.{length, take, get_or}
use lib.Seq.{take-add}
use Rattle.lent.specs.Bytes.{win}
use Rattle.lent.proofs.Splice.{win_to_none, win_to_more}
use Rattle.feed.specs.Held.{Buffer, pushed, pushed_all}
use Rattle.feed.specs.Answers.{Open, behind, byte, fed}
use Rattle.feed.proofs.Laws.{pushed_none, pushed_more}
use Rattle.feed.proofs.Cut.{fed-none, fed-append, fed-more}
use Rattle.book.specs.Memory.{Memory}
use Rattle.replies.specs.Replies.{line_room}
use Rattle.script.specs.Input.{answer_line}
use Rattle.script.specs.Buffers.{Delivered, Reaches, Stretched}
use Rattle.script.proofs.Prints.{printed-none, printed-next}

-- the buffer behind the bytes from one place of the chunk to another
module _ (chunk : List ℕ) (from : ℕ) where
  pub buffer-none : (k : Buffer) → k ≡ pushed_all k (win chunk from (from - from))
  buffer-none k = rw (win_to_none chunk from) (sym (pushed_none k))

  pub buffer-more : (k now then : Buffer) (i : ℕ) → from ≤ i → i < length chunk → now ≡ pushed_all k (win chunk from (i - from)) → then ≡ pushed now (get_or chunk i 0)
      → then ≡ pushed_all k (win chunk from (i + 1 - from))
  buffer-more k now then i f l e q = rw (win_to_more chunk from i f l, pushed_more k (win chunk from (i - from)) (get_or chunk i 0), ← e) q

module _ (o : Open Memory) (chunk : List ℕ) (from : ℕ) (out : List ℕ) where
  fed_to_none : fed answer_line o (win chunk from (from - from)) ≡ record { world = o; text = [] }
  fed_to_none = rw (win_to_none chunk from) (fed-none answer_line o)

  pub reaches_none : from ≤ length chunk → Reaches o chunk from from o out out 0
  reaches_none h =
      record {
        answered = rw fed_to_none (record { world = refl; printed = printed-none out 0 (omega arith) });
        within = (omega arith, h);
        room = λ k l. absurd (omega arith);
      }

  pub reaches_more : (i : ℕ) (mid after : List ℕ) (put next : ℕ) (now then : Open Memory)
      → Reaches o chunk from i now out mid put → i < length chunk → put + line_room ≤ length out
      → Delivered (byte answer_line now (get_or chunk i 0)) then mid put after next
      → Reaches o chunk from (i + 1) then out after next
  reaches_more i mid after put next now then r l m p =
      let xs : List ℕ = win chunk from (i - from) in
      let f = r.within.0 in
      let x = win_to_more chunk from i f l in
      let e : fed answer_line o (win chunk from (i + 1 - from)) ≡ behind (fed answer_line o xs).text (byte answer_line now (get_or chunk i 0)) =
      rw x (fed-more answer_line o xs (get_or chunk i 0) (byte answer_line now (get_or chunk i 0)) (rw r.answered.world)) in
      record {
        answered = rw e (record { world = p.world; printed = printed-next _ _ _ _ _ 0 put next r.answered.printed p.printed });
        within = (omega arith, omega arith);
        room = λ k h. ⊎_elim (λ q. rw q (let e = r.answered.printed.place in omega arith)) (λ h. r.room k h) (eq-or-lt_of_le (let j : k ≤ i - from = omega arith in j));
      }

  -- a stretch that starts within the chunk, with room for an output line, takes a byte
  pub stretched_on : {next : ℕ} {after : List ℕ} {put : ℕ} {now : Open Memory} → Stretched o chunk from next now out after put
      → from < length chunk → line_room ≤ length out → from < next
  stretched_on {next} {after} {put} {now} s l m = ⊎_elim (λ e. omega arith) (λ f. ⊎_elim (λ q. absurd (none q f)) (λ h. h) (eq-or-lt_of_le s.reaches.within.0)) s.stops
    where
      none : from ≡ next → length out < put + line_room → ⊥
      none q f =
          let p : put ≡ 0 + length (fed answer_line o (win chunk from (from - from))).text = rw (← q) at s.reaches.answered.printed.place in
          let p0 : put ≡ 0 = rw fed_to_none at p in
          omega arith

-- stretches one behind the other
pub poured_on : (o now then : Open Memory) (chunk : List ℕ) (from next : ℕ) (out after : List ℕ) (put : ℕ)
    → now ≡ (fed answer_line o (take from chunk)).world → Stretched now chunk from next then out after put
    → then ≡ (fed answer_line o (take next chunk)).world
unfolding win
poured_on o now then chunk from next out after put e s =
    let w = s.reaches.within.0 in
    let n : next ≡ from + (next - from) = omega arith in
    let t : take next chunk ≡ take from chunk ++ win chunk from (next - from) =
    ap (λ (k : ℕ). take k chunk) n ∙ take-add from (next - from) chunk in
    s.reaches.answered.world ∙ rw (t, fed-append answer_line o (take from chunk) (win chunk from (next - from)), e)
