-- A note in the book: its length, and the bytes of its value behind it. Where one is copied to a later place, the length that is stored there first
-- does not touch the bytes that are still to be read.
use Prim.Native.Nat.{ℕ, ◌+◌, ◌≤◌, ◌<◌, min}
use mathlib.Core.Path.{◌≡◌, refl, sym, ◌∙◌}
use mathlib.Core.List.{List, [], ◌∷◌}
use native.Mathlib.Nat.{min-le_right}
use native.Mathlib.Omega.{arith}
use lib.Dec.{eqb, eqb-suc-zero}
use lib.ListN.{length, get_or}
use Rattle.lent.specs.Bytes.{win, splice}
use Rattle.lent.specs.Tables.{same}
use Rattle.lent.proofs.Splice.{length-win, splice-next, win-splice-before}
use Rattle.machine.specs.Sizes.{key_count, value_max}
use Rattle.book.specs.Book.{book_size, note_at, note, with_note}

-- a value is the empty one if it has no bytes
pub same_empty : (v : List ℕ) → same v [] ≡ eqb (length v) 0
unfolding same
same_empty [] = refl
same_empty (x ∷ v) = sym (eqb-suc-zero (length v))

-- note i is copied to note j, behind it
pub note_copied : (b : List ℕ) (i j n : ℕ) (s t : List ℕ) → length b ≡ book_size → i < j → j < key_count + key_count
    → n ≡ min (get_or b (note_at i) 0) value_max → s ≡ splice b (note_at j) (n ∷ []) → t ≡ splice s (note_at j + 1) (win s (note_at i + 1) n) → t ≡ with_note b j (note b i)
unfolding note with_note
note_copied b i j n s t e h g m p q =
    let k : n ≤ value_max = rw m (min-le_right _ _) in
    let w : win s (note_at i + 1) n ≡ win b (note_at i + 1) n = rw p (win-splice-before b (note_at j) (n ∷ []) (note_at i + 1) n (omega arith) (omega arith)) in
    let l : length (win b (note_at i + 1) n) ≡ n = length-win b (note_at i + 1) n (omega arith) in
    q ∙ rw (w, p, splice-next b (n ∷ []) (win b (note_at i + 1) n) (note_at j) 1 refl (omega arith), ← m, l)
