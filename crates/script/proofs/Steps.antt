-- A byte's step by what the byte is, held or the end of a line that is answered; and the end of the input by whether bytes are held.
use mathlib.Core.Path.{◌≡◌, refl, ap, ◌∙◌}
use mathlib.Core.List.{List, [], ◌∷◌, ◌++◌}
use Prim.Native.Nat.{ℕ, ◌+◌, ◌≤◌}
use native.Mathlib.Omega.{arith}
use lib.ListN.{length, take}
use lib.Seq.{length-take-le}
use Rattle.feed.specs.Lines.{held_max}
use Rattle.feed.specs.Held.{taken, line_after, buffer, pushed}
use Rattle.feed.specs.Answers.{byte}
use Rattle.feed.specs.declared.Taken.{Taken}
use Rattle.feed.proofs.Laws.{taken_held, taken_line, length-after}
use Rattle.feed.proofs.Cut.{byte-newline, byte_other, last_line, last_none}
use Rattle.book.specs.Memory.{Memory, memory_of}
use Rattle.replies.specs.Replies.{line_room}
use Rattle.script.specs.Input.{answer_line, end_line, finished}
use Rattle.script.specs.Buffers.{opened, Printed, Delivered, HeldFits}
use Rattle.script.proofs.Prints.{printed-none, printed-next}

module _ (line : List ℕ) (held b : ℕ) (after : List ℕ) (h : HeldFits line held) (q : after ≡ line_after line held b) where
  length_taken : length after ≡ held_max
  length_taken = ap length q ∙ length-after line held b ∙ h.size

  -- the whole line is a part of its buffer
  pub line_within : (n : ℕ) → taken line held b ≡ Taken.Line n → n ≤ length after
  line_within n t = let k = taken_line line held b n t in let s = length_taken in let m = h.most in omega (arith, k.number)

module _ (cache book line out : List ℕ) (held b put : ℕ) (after : List ℕ) (h : HeldFits line held) (q : after ≡ line_after line held b) where
  pub step_held : (n : ℕ) → put + line_room ≤ length out → taken line held b ≡ Taken.Held n
      → Delivered (byte answer_line (opened cache book line held) b) (opened cache book after n) out put out put × (HeldFits after n × (buffer after n ≡ pushed (buffer line held) b))
  step_held n r t =
      let k = taken_held line held b n h.size h.most t in
      let e = byte_other answer_line (memory_of cache book) (take held line) b k.other in
      let p : take n after ≡ take held_max (take held line ++ b ∷ []) = rw q k.bytes in
      rw e (record { world = rw p; printed = printed-none out put (omega arith) }, (record { size = length_taken line held b after h q; most = k.most }, rw (q, t)))

  pub step_line : (n : ℕ) (cache' book' out' : List ℕ) (next : ℕ) → taken line held b ≡ Taken.Line n
      → Delivered (answer_line (memory_of cache book) (take n after)) (memory_of cache' book') out put out' next
      → Delivered (byte answer_line (opened cache book line held) b) (opened cache' book' after 0) out put out' next × (HeldFits after 0 × (buffer after 0 ≡ pushed (buffer line held) b))
  step_line n cache' book' out' next t p =
      let k = taken_line line held b n t in
      let e = byte-newline answer_line (memory_of cache book) (take held line) b k.ends in
      let z : take n after ≡ take held line = rw (k.number, q, k.same) in
      rw e (
        record { world = ap (λ (x : Memory). record { world = x; held = [] }) (rw z at p.world); printed = rw z at p.printed },
        (record { size = length_taken line held b after h q; most = omega arith }, rw (q, t)),
      )

module _ (cache book line out : List ℕ) (held : ℕ) where
  pub finish-none : (out' : List ℕ) (next : ℕ) → held ≡ 0 → Printed (end_line book) out 0 out' next
      → Delivered (finished (memory_of cache book) (take held line)) (memory_of cache book) out 0 out' next
  unfolding finished
  finish-none out' next z p = rw (z, last_none answer_line (memory_of cache book)) (record { world = refl; printed = p })

  pub finish_line : HeldFits line held → (cache' book' mid out' : List ℕ) (put next : ℕ) → (held ≡ 0 → ⊥)
      → Delivered (answer_line (memory_of cache book) (take held line)) (memory_of cache' book') out 0 mid put
      → Printed (end_line book') mid put out' next
      → Delivered (finished (memory_of cache book) (take held line)) (memory_of cache' book') out 0 out' next
  unfolding finished
  finish_line h cache' book' mid out' put next z p q =
      let s = h.size in
      let m = h.most in
      let l : length (take held line) ≡ held = length-take-le held line (omega arith) in
      rw (last_line answer_line (memory_of cache book) (take held line) (λ e. z (omega arith)))
      (record { world = p.world; printed = rw (← p.world) (printed-next _ _ _ _ _ 0 put next p.printed q) })
