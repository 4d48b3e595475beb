-- A text printed into a part of the output buffer is printed into the buffer, and one that follows another makes one text with it.
use mathlib.Core.Path.{◌≡◌, refl, sym, ap, ◌∙◌}
use mathlib.Core.List.{List, [], ◌++◌}
use Prim.Native.Nat.{ℕ, ◌+◌, ◌-◌, ◌≤◌}
use native.Mathlib.Nat.{add-zero}
use native.Mathlib.Omega.{arith}
use lib.ListN.{length, take, drop, length-append}
use Rattle.lent.specs.Bytes.{splice, win}
use Rattle.lent.proofs.Splice.{length-win, length-splice, splice-none, splice-next, splice-win, part_win, part_splice}
use Rattle.replies.specs.Replies.{line_room}
use Rattle.script.specs.Buffers.{Printed}

-- the part of the buffer that is lent for a text
abbrev pub lent_part : List ℕ → ℕ → List ℕ
lent_part out put = take (put + line_room - put) (drop put out)

pub length_lent : (out : List ℕ) (put : ℕ) → put + line_room ≤ length out → length (lent_part out put) ≡ line_room
length_lent out put h = ap length (part_win out put line_room) ∙ length-win out put line_room h

-- a text at the front of the part that was lent
pub printed_part : (out text x : List ℕ) (put r : ℕ) → put + line_room ≤ length out
    → x ≡ splice (lent_part out put) 0 text → r ≡ length text → length text ≤ line_room
    → Printed text out put (take put out ++ (x ++ drop (put + line_room - put) (drop put out))) (put + r)
printed_part out text x put r h e n f =
    let q : x ≡ splice (win out put line_room) 0 text = e ∙ ap (λ (l : List ℕ). splice l 0 text) (part_win out put line_room) in
    let lw : length (win out put line_room) ≡ line_room = length-win out put line_room h in
    let lx : length x ≡ line_room = ap length q ∙ length-splice (win out put line_room) 0 text (omega arith) ∙ lw in
    let z : splice out (put + 0) text ≡ splice out put text = rw add-zero in
    record {
      bytes = part_splice out x put line_room lx ∙ ap (splice out put) q ∙ splice-win out put line_room 0 text h (omega arith) ∙ z;
      place = omega arith;
      fits = omega arith;
    }

pub printed-length : {text out after : List ℕ} {put next : ℕ} → Printed text out put after next → length after ≡ length out
printed-length {text} {out} {after} {put} {next} p =
    let e = p.place in
    let f = p.fits in
    ap length p.bytes ∙ length-splice out put text (omega arith)

pub printed-none : (out : List ℕ) (put : ℕ) → put ≤ length out → Printed [] out put out put
printed-none out put h = record { bytes = sym (splice-none out put); place = sym (add-zero put); fits = h }

-- one text behind another
pub printed-next : (s t out a b : List ℕ) (put m n : ℕ) → Printed s out put a m → Printed t a m b n → Printed (s ++ t) out put b n
printed-next s t out a b put m n p q =
    let la : length a ≡ length out = ap length p.bytes ∙ length-splice out put s (omega arith) in
    let ln : length (s ++ t) ≡ length s + length t = length-append s t in
    let e : splice (splice out put s) (put + length s) t ≡ splice out put (s ++ t) = splice-next out s t put (length s) refl (omega arith) in
    record {
      bytes = q.bytes ∙ ap (λ (l : List ℕ). splice l m t) p.bytes ∙ ap (λ (k : ℕ). splice (splice out put s) k t) p.place ∙ e;
      place = omega arith;
      fits = omega arith;
    }
