-- A line is written field by field: what is put at the place behind what was put is one longer stretch, and the tail of a buffer that is lent and comes back with bytes at its front is the buffer with them at the tail's place.
use mathlib.Core.Path.{◌≡◌, refl, ap, ◌∙◌}
use mathlib.Core.List.{List, [], ◌∷◌, ◌++◌, append-nil}
use Prim.Native.Nat.{ℕ, ◌+◌, ◌-◌, ◌≤◌}
use native.Mathlib.Nat.{zero-add}
use native.Mathlib.Omega.{arith}
use lib.ListN.{length, take, drop, length-append, length-take, length-drop, drop_of_length-le}
use lib.Seq.{drop-drop, take-length}
use Rattle.lent.specs.Bytes.{splice}
use Rattle.lent.proofs.Choices.{if_ind}
use Rattle.lent.proofs.Splice.{splice_then, length-splice}
use Rattle.counts.specs.Count.{digits_max, written}
use Rattle.counts.proofs.Decimal.{decimal_most}
use Rattle.counts.proofs.Laws.{written_room}
use Rattle.machine.specs.Sizes.{value_max}
use Rattle.hex_text.proofs.Printing.{hex_most}
use Rattle.lent.specs.Text.{space, newline}
use Rattle.replies.specs.Text.{ascii}
use Rattle.replies.specs.Replies.{line_room, detail_max, name_of, printed, numbered, valued, detailed, field, replied, ended}
use Rattle.replies.specs.Puts.{Put}
use Rattle.replies.specs.declared.Cursor.{Cursor}
use Rattle.replies.proofs.Names.{name_most}

-- ---- one field behind the other

pub put_then : {c d e : Cursor} {x y : List ℕ} → Put c x d → Put d y e → c.at + length x + length y ≤ length c.out.now → Put c (x ++ y) e
put_then {c} {d} {e} {x} {y} p q h = record {
  same = q.same ∙ p.same;
  whole = q.whole ∙ p.whole;
  place = q.place ∙ rw (p.place, length-append x y) (omega arith);
  bytes = splice_then c.out.now d.out.now e.out.now x y c.at (length x) p.bytes (rw (← p.place) q.bytes) refl h;
}

pub put_fits : {c d : Cursor} {x : List ℕ} → c.at + length x ≤ length c.out.now → d.out.ghost_name ≡ c.out.ghost_name → d.at ≡ c.at + length x → d.out.now ≡ splice c.out.now c.at x → Put c x d
put_fits {c} {d} {x} h e p b = record { same = e; whole = ap length b ∙ length-splice c.out.now c.at x h; place = p; bytes = b }

-- t is what stays in the buffer of a line that is written from its front
pub put_front : {c d : Cursor} {x t : List ℕ} → Put c x d → c.at ≡ 0 → t ≡ d.out.now → (d.at ≡ length x) × (t ≡ splice c.out.now 0 x)
put_front {c} {d} {x} p z e = (p.place ∙ rw z (zero-add (length x)), e ∙ rw (← z) p.bytes)

-- ---- in the tail of a buffer

-- x is what came back of the tail
pub tail_splice : (s x y : List ℕ) (a : ℕ) → a + length y ≤ length s → x ≡ splice (take (length s - a) (drop a s)) 0 y
    → take a s ++ (x ++ drop (length s - a) (drop a s)) ≡ splice s a y
unfolding splice
tail_splice s x y a h f =
    let l : length (drop a s) ≡ length s - a = length-drop a s in
    let t : take (length s - a) (drop a s) ≡ drop a s = rw (← l) (take-length (drop a s)) in
    let g : drop (length s - a) (drop a s) ≡ [] = drop_of_length-le (drop a s) {i = length s - a} (omega arith) in
    rw (g, append-nil, f, t, zero-add, drop-drop)

-- ---- lengths

pub field-length : (x : List ℕ) (v : ℕ) → length (field x v) ≡ length x + 1
field-length x v = length-append x (v ∷ [])

-- ---- numbers

-- a number has at most 20 digits
pub printed_most : (n : ℕ) → length (printed n) ≤ digits_max
unfolding printed
printed_most n = decimal_most n

pub number_most : (n v : ℕ) → length (field (printed n) v) ≤ digits_max + 1
number_most n v = omega (arith, field-length (printed n) v, printed_most n)

module _ (n : ℕ) (s : List ℕ) (h : digits_max ≤ length s) where
  printed_bytes : (written n s).bytes ≡ splice s 0 (printed n)
  unfolding printed
  printed_bytes = ap (λ w. w.bytes) (written_room n s h)

  printed-number : (written n s).number ≡ length (printed n)
  unfolding printed
  printed-number = ap (λ w. w.number) (written_room n s h)

-- in the tail of s, of which x is what came back
module _ (s x : List ℕ) (a n w : ℕ) (h : a + digits_max ≤ length s) (e : w ≡ (written n (take (length s - a) (drop a s))).number) (f : x ≡ (written n (take (length s - a) (drop a s))).bytes) where
  tail_room : digits_max ≤ length (take (length s - a) (drop a s))
  tail_room = let l : length (take (length s - a) (drop a s)) ≡ length s - a = simp (length-take, length-drop) (omega arith) in omega arith

  pub tail_number : w ≡ length (printed n)
  tail_number = e ∙ printed-number n _ tail_room

  pub tail_digits : take a s ++ (x ++ drop (length s - a) (drop a s)) ≡ splice s a (printed n)
  tail_digits = tail_splice s x (printed n) a (omega (arith, printed_most n)) (f ∙ printed_bytes n _ tail_room)

-- ---- details

pub detail_most : (word detail : ℕ) (value : List ℕ) → length value ≤ value_max → length (detailed word detail value) ≤ detail_max
unfolding detailed
detail_most word detail value h =
    if_ind (λ (x : List ℕ). length x ≤ detail_max) (numbered word) (λ e. omega (arith, printed_most detail))
    (λ e. if_ind (λ (x : List ℕ). length x ≤ detail_max) (valued word) (λ f. omega (arith, hex_most value value_max (omega arith) h)) (λ f. omega arith))

-- ---- whole lines

pub reply_put : {c d e f g : Cursor} (line word detail : ℕ) (value : List ℕ) (rule : ℕ) → c.at + line_room ≤ length c.out.now → length value ≤ value_max
    → Put c (field (printed line) space) d → Put d (field (name_of word) space) e
    → Put e (field (detailed word detail value) space) f → Put f (field (printed rule) newline) g → Put c (replied line word detail value rule) g
unfolding replied
reply_put line word detail value rule h l p q r t =
    let m = printed_most line in
    let n = name_most word in
    let o = detail_most word detail value l in
    let k = printed_most rule in
    put_then (put_then (put_then p q (simp length-append (omega arith))) r (simp length-append (omega arith))) t (simp length-append (omega arith))

pub end_put : {c d e f : Cursor} (lines broken : ℕ) → c.at + line_room ≤ length c.out.now
    → Put c (field (ascii "end") space) d → Put d (field (printed lines) space) e → Put e (field (printed broken) newline) f → Put c (ended lines broken) f
unfolding ended
end_put lines broken h p q r =
    let m = printed_most lines in
    let n = printed_most broken in
    put_then (put_then p q (simp length-append (omega arith))) r (simp length-append (omega arith))
