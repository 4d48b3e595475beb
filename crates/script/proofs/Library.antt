-- What the library leaves in the part of the output buffer that is lent for a text. The part keeps its length, so the text fits it.
use Rattle.std.specs.Prelude.{if◌then◌else◌}
use mathlib.Core.Path.{◌≡◌, sym, ap, ◌∙◌}
use mathlib.Core.Bool.{Bool, true, false, ◌&&◌}
use mathlib.Core.List.{List, [], ◌++◌}
use Prim.Native.Nat.{ℕ, ◌+◌, ◌-◌, ◌≤◌}
use native.Mathlib.Omega.{arith}
use lib.ListN.{length, take, drop, length-append}
use lib.Dec.{eqb, leb}
use borrow.Author.Tests.{le-leb}
use Rattle.lent.specs.Bytes.{splice}
use Rattle.lent.proofs.Splice.{splice-none}
use Rattle.book.specs.Book.{book_size, lines_in, broken_in}
use Rattle.replies.specs.Replies.{line_room, ended}
use Rattle.rehearsal.specs.Rehearsal.{Left, Leaves, wrote, turn, line_of, end_of}
use Rattle.book.specs.Memory.{memory_of}
use Rattle.script.specs.Input.{as_answer, answer_line, end_line}
use Rattle.script.specs.Buffers.{Printed, Delivered}
use Rattle.script.proofs.Prints.{lent_part, length_lent, printed_part}

-- the part that is lent for a text, when it comes back as x with a text of r bytes at its front
pub record AtFront (text part : List ℕ) (r : ℕ) (x : List ℕ) : Type 0 where
  pub number : r ≡ length text
  pub bytes : x ≡ splice part 0 text

splice_least : (s x : List ℕ) → length x ≤ length (splice s 0 x)
unfolding splice
splice_least s x = simp length-append (omega arith)

-- a text that was put into the part of line_room bytes at `put`
at_front_printed : (out text x : List ℕ) (put r : ℕ) → put + line_room ≤ length out
    → length x ≡ length (lent_part out put) → AtFront text (lent_part out put) r x
    → Printed text out put (take put out ++ (x ++ drop (put + line_room - put) (drop put out))) (put + r) × (r ≤ line_room)
at_front_printed out text x put r h l p =
    let f : length text ≤ line_room = let s = splice_least (lent_part out put) text in omega (arith, ap length p.bytes, length_lent out put h) in
    (printed_part out text x put r h p.bytes p.number f, omega (arith, p.number))

part_room : (out : List ℕ) (put : ℕ) → put + line_room ≤ length out → leb line_room (length (lent_part out put)) ≡ true
part_room out put h = le-leb line_room (length (lent_part out put)) (omega (arith, length_lent out put h))

-- the two calls, where there is room
module _ (book part : List ℕ) (room : leb line_room (length part) ≡ true) where
  line_at_front : (cache l cache' book' x : List ℕ) (r : ℕ) → Leaves (line_of cache book l part) r cache' book' x
      → AtFront (answer_line (memory_of cache book) l).text part r x × (memory_of cache' book' ≡ (answer_line (memory_of cache book) l).world)
  unfolding line_of answer_line
  line_at_front cache l cache' book' x r = rw room (go (eqb (length book) book_size))
    where
      go : (t : Bool) → Leaves (if t && true then wrote (turn cache book l) part else record { length = 0; cache = cache; book = book; out = part }) r cache' book' x
          → let s = if t then as_answer (turn cache book l) else record { world = memory_of cache book; text = [] } in AtFront s.text part r x × (memory_of cache' book' ≡ s.world)
      go true e = (record { number = e.length; bytes = e.out }, rw (e.cache, e.book))
      go false e = (record { number = e.length; bytes = e.out ∙ sym (splice-none part 0) }, rw (e.cache, e.book))

  end_at_front : (x : List ℕ) (r : ℕ) → (r ≡ (end_of book part).length) × (x ≡ (end_of book part).out) → AtFront (end_line book) part r x
  unfolding end_of end_line
  end_at_front x r = rw room (go (eqb (length book) book_size))
    where
      go : (t : Bool) → let l : Left = if t && true then wrote (record { text = ended (lines_in book) (broken_in book); cache = []; book = book }) part else record { length = 0; cache = []; book = book; out = part } in (r ≡ l.length) × (x ≡ l.out)
          → AtFront (if t then ended (lines_in book) (broken_in book) else []) part r x
      go true e = record { number = e.0; bytes = e.1 }
      go false e = record { number = e.0; bytes = e.1 ∙ sym (splice-none part 0) }

-- the same in the whole buffer
module _ (book out : List ℕ) (put : ℕ) (h : put + line_room ≤ length out) (x : List ℕ) (r : ℕ)
    (same : length x ≡ length (lent_part out put)) where
  pub line_delivered : (cache l cache' book' : List ℕ) → Leaves (line_of cache book l (lent_part out put)) r cache' book' x
      → Delivered (answer_line (memory_of cache book) l) (memory_of cache' book') out put (take put out ++ (x ++ drop (put + line_room - put) (drop put out))) (put + r) × (r ≤ line_room)
  line_delivered cache l cache' book' e =
      let p = line_at_front book _ (part_room out put h) cache l cache' book' x r e in
      let q = at_front_printed out _ x put r h same p.0 in
      (record { world = p.1; printed = q.0 }, q.1)

  pub end_printed : let e = end_of book (lent_part out put) in (r ≡ e.length) × (x ≡ e.out)
      → Printed (end_line book) out put (take put out ++ (x ++ drop (put + line_room - put) (drop put out))) (put + r) × (r ≤ line_room)
  end_printed e = at_front_printed out _ x put r h same (end_at_front book _ (part_room out put h) x r e)
