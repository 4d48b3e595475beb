-- Stretches of a list: `win` reads one and `splice` writes one. Both are `take`, `drop` and `++`, so each law is one of those of
-- `lib.Seq` once the places have the same form. Windows stand first, then splices, then what is read after a splice.
use mathlib.Core.Path.{◌≡◌, refl, sym, ap, ◌∙◌}
use mathlib.Core.Bool.{Bool, true, false}
use mathlib.Core.List.{List, [], ◌∷◌, ◌++◌, append_assoc, append-nil}
use Prim.Native.Nat.{ℕ, zero, suc, ◌+◌, ◌-◌, ◌≤◌, ◌<◌}
use native.Mathlib.Nat.{add-zero, zero-add, suc-add, add-sub_cancel_left}
use native.Mathlib.Numerals.{add-one}
use native.Mathlib.Omega.{arith}
use lib.ListN.{length, take, drop, get_or, set, length-append, length-take, length-drop, take-append-drop, get_or-append, get_or-eq_default}
use lib.Seq.{drop-cons, drop-append-add, drop-append-le, drop_at, drop-drop, drop-length, get_or-append-add, get_or-drop, get_or-take, length-take-le, set_split, take-add, take-append-add, take-take, take-append-le, take_at, take-length, take-nil}
use lib.Dec.{ltb, lit<}
use borrow.Author.Tests.{ltb-true, ltb-false}
use Rattle.lent.specs.Bytes.{Bytes, splice, win}

-- ---- windows

pub length-win : (s : List ℕ) (a n : ℕ) → a + n ≤ length s → length (win s a n) ≡ n
unfolding win
length-win s a n h = simp (length-take, length-drop) (omega arith)

pub win-none : (s : List ℕ) (a : ℕ) → win s a 0 ≡ []
unfolding win
win-none s a = refl

pub win-whole : (s : List ℕ) (n : ℕ) → length s ≡ n → win s 0 n ≡ s
unfolding win
win-whole s n e = rw (← e, take-length)

pub win-one : (s : List ℕ) (a : ℕ) → a < length s → win s a 1 ≡ get_or s a 0 ∷ []
unfolding win
win-one s a h = rw (drop-cons s a 0 h)

pub win-cons : (s : List ℕ) (a n : ℕ) → a < length s → win s a (suc n) ≡ get_or s a 0 ∷ win s (a + 1) n
unfolding win
win-cons s a n h = rw (drop-cons s a 0 h, add-one)

-- two windows side by side
pub win-add : (s : List ℕ) (a m n : ℕ) → win s a (m + n) ≡ win s a m ++ win s (a + m) n
unfolding win
win-add s a m n = rw (take-add m n (drop a s), drop-drop)

pub win-more : (s : List ℕ) (a n : ℕ) → a + n < length s → win s a (n + 1) ≡ win s a n ++ (get_or s (a + n) 0 ∷ [])
win-more s a n h = rw (win-add s a n 1, win-one s (a + n) h)

-- from one place to another
pub win_to_none : (s : List ℕ) (a : ℕ) → win s a (a - a) ≡ []
win_to_none s a = let z : a - a ≡ 0 = omega arith in rw z (win-none s a)

pub win_to_more : (s : List ℕ) (a e : ℕ) → a ≤ e → e < length s → win s a (e + 1 - a) ≡ win s a (e - a) ++ (get_or s e 0 ∷ [])
win_to_more s a e h l =
    let n : e + 1 - a ≡ e - a + 1 = omega arith in
    let p : a + (e - a) ≡ e = omega arith in
    rw n (win-more s a (e - a) (omega arith) ∙ rw p)

drop-take : (i k : ℕ) (l : List ℕ) → drop i (take (i + k) l) ≡ take k (drop i l)
drop-take zero k l = rw zero-add
drop-take (suc i) k [] = rw (suc-add, take-nil)
drop-take (suc i) k (x ∷ l) = rw suc-add (drop-take i k l)

-- a window of a window
pub win-win : (s : List ℕ) (a n i m : ℕ) → i + m ≤ n → win (win s a n) i m ≡ win s (a + i) m
unfolding win
win-win s a n i m h =
    let q : n ≡ i + (m + (n - i - m)) = omega arith in
    rw (q, drop-take, drop-drop, take-take m (m + (n - i - m)) (drop (a + i) s) (omega arith))

pub win-drop : (s : List ℕ) (a b n : ℕ) → win (drop a s) b n ≡ win s (a + b) n
unfolding win
win-drop s a b n = rw (drop-drop b a s)

-- behind a front p, and within it
pub win-append : (p r : List ℕ) (n k m : ℕ) → length p ≡ n → win (p ++ r) (n + k) m ≡ win r k m
unfolding win
win-append p r n k m e = rw (← e, drop-append-add)

pub win_front : (p r : List ℕ) (k m : ℕ) → k + m ≤ length p → win (p ++ r) k m ≡ win p k m
unfolding win
win_front p r k m h = rw (drop-append-le k p r (omega arith), take-append-le m (drop k p) r (simp length-drop (omega arith)))

pub get_or-win : (s : List ℕ) (a n j : ℕ) → j < n → get_or (win s a n) j 0 ≡ get_or s (a + j) 0
unfolding win
get_or-win s a n j h = rw (get_or-take n (drop a s) j 0 h, get_or-drop)

pub bytes_win : (s : List ℕ) (a n : ℕ) → a + n ≤ length s → Bytes s → Bytes (win s a n)
bytes_win s a n h f j = go (ltb j n) refl
  where
    go : (t : Bool) → ltb j n ≡ t → get_or (win s a n) j 0 < 256
    go true e = rw (get_or-win s a n j (ltb-true j n e)) (f (a + j))
    go false e = let k : length (win s a n) ≤ j = rw (length-win s a n h) (ltb-false j n e) in rw (get_or-eq_default (win s a n) 0 k) (lit< tt)

-- ---- splices

pub length-splice : (s : List ℕ) (a : ℕ) (x : List ℕ) → a + length x ≤ length s → length (splice s a x) ≡ length s
unfolding splice
length-splice s a x h = simp (length-append, length-take, length-drop) (omega arith)

pub splice-none : (s : List ℕ) (a : ℕ) → splice s a [] ≡ s
unfolding splice
splice-none s a = rw (add-zero, take-append-drop)

pub splice-whole : (s x : List ℕ) → length s ≡ length x → splice s 0 x ≡ x
unfolding splice
splice-whole s x e = rw (zero-add, ← e, drop-length, append-nil)

pub splice_self : (s : List ℕ) (a n : ℕ) → a + n ≤ length s → splice s a (win s a n) ≡ s
unfolding splice win
splice_self s a n h =
    let e : length (take n (drop a s)) ≡ n = length-take-le n (drop a s) (simp length-drop (omega arith)) in
    rw (e, ← drop-drop n a s, take-append-drop, take-append-drop)

-- a store is a write of one byte
pub set-splice : (s : List ℕ) (a v : ℕ) → a < length s → set s a v ≡ splice s a (v ∷ [])
unfolding splice
set-splice s a v h = rw add-one (set_split s a v h)

-- writes one behind the other are one write
pub splice-next : (s x y : List ℕ) (a n : ℕ) → length x ≡ n → a + n + length y ≤ length s → splice (splice s a x) (a + n) y ≡ splice s a (x ++ y)
unfolding splice
splice-next s x y a n e h =
    let p : length (take a s ++ x) ≡ a + n = simp (length-append, length-take) (omega arith) in
    let q : a + length (x ++ y) ≡ a + n + length y = simp length-append (omega arith) in
    let d : drop (a + n + length y) (take a s ++ x ++ drop (a + n) s) ≡ drop (a + n + length y) s =
    rw (← p, drop-append-add, drop-drop) in
    rw (e, ← append_assoc (take a s) x (drop (a + n) s), take_at (take a s ++ x) (drop (a + n) s) (a + n) p, d, q) (simp append_assoc)

pub splice_then : (s t u x y : List ℕ) (a n : ℕ) → t ≡ splice s a x → u ≡ splice t (a + n) y → length x ≡ n → a + n + length y ≤ length s → u ≡ splice s a (x ++ y)
splice_then s t u x y a n e f l h = f ∙ rw e (splice-next s x y a n l h)

-- behind a front p nothing changes but the place
pub splice-append : (p r x : List ℕ) (n k : ℕ) → length p ≡ n → splice (p ++ r) (n + k) x ≡ p ++ splice r k x
unfolding splice
splice-append p r x n k e =
    let q : n + k + length x ≡ length p + (k + length x) = omega arith in
    rw (q, drop-append-add, ← e, take-append-add, append_assoc)

pub splice_front : (p r x : List ℕ) (k : ℕ) → k + length x ≤ length p → splice (p ++ r) k x ≡ splice p k x ++ r
unfolding splice
splice_front p r x k h = rw (take-append-le k p r (omega arith), drop-append-le (k + length x) p r h) (simp append_assoc)

splice_is : (s : List ℕ) (a : ℕ) (x : List ℕ) (n : ℕ) → length x ≡ n → splice s a x ≡ take a s ++ (x ++ drop (a + n) s)
unfolding splice
splice_is s a x n e = rw e

-- ---- parts that are lent

-- `&s[a..a + n]` is a window
pub part_win : (s : List ℕ) (a n : ℕ) → take (a + n - a) (drop a s) ≡ win s a n
unfolding win
part_win s a n = rw (add-sub_cancel_left a n)

-- `&mut s[a..a + n]` that has come back as x is a splice
pub part_splice : (s x : List ℕ) (a n : ℕ) → length x ≡ n → take a s ++ (x ++ drop (a + n - a) (drop a s)) ≡ splice s a x
unfolding splice
part_splice s x a n e = rw (add-sub_cancel_left a n, drop-drop, e)

-- ---- what is read after a splice

pub get_or-splice-before : (s : List ℕ) (a : ℕ) (x : List ℕ) (k : ℕ) → k < a → a ≤ length s → get_or (splice s a x) k 0 ≡ get_or s k 0
unfolding splice
get_or-splice-before s a x k h l =
    let p : k < length (take a s) = simp length-take (omega arith) in
    rw (get_or-append (take a s) _ 0 k p, get_or-take a s k 0 h)

pub get_or-splice_in : (s : List ℕ) (a : ℕ) (x : List ℕ) (j : ℕ) → a ≤ length s → j < length x → get_or (splice s a x) (a + j) 0 ≡ get_or x j 0
unfolding splice
get_or-splice_in s a x j l h =
    let p : a ≡ length (take a s) = sym (length-take-le a s l) in
    ap (λ (k : ℕ). get_or (take a s ++ (x ++ drop (a + length x) s)) (k + j) 0) p ∙ rw (get_or-append-add, get_or-append x _ 0 j h)

-- nothing behind what was written is moved
drop-splice : (s : List ℕ) (a : ℕ) (x : List ℕ) (k : ℕ) → a + length x ≤ length s → a + length x ≤ k → drop k (splice s a x) ≡ drop k s
unfolding splice
drop-splice s a x k l h =
    let p : length (take a s ++ x) ≡ a + length x = simp (length-append, length-take) (omega arith) in
    let q : k ≡ length (take a s ++ x) + (k - (a + length x)) = omega arith in
    let r : a + length x + (k - (a + length x)) ≡ k = omega arith in
    ap (λ (j : ℕ). drop j (take a s ++ (x ++ drop (a + length x) s))) q
    ∙ rw (← append_assoc (take a s) x (drop (a + length x) s), drop-append-add, drop-drop, r)

pub get_or-splice-after : (s : List ℕ) (a : ℕ) (x : List ℕ) (k : ℕ) → a + length x ≤ length s → a + length x ≤ k → get_or (splice s a x) k 0 ≡ get_or s k 0
get_or-splice-after s a x k l h =
    let at : (t : List ℕ) → get_or t k 0 ≡ get_or (drop k t) 0 0 = λ t. rw (get_or-drop, add-zero) in
    at (splice s a x) ∙ rw (drop-splice s a x k l h) (sym (at s))

-- the same place, within it, before it and behind it
pub win-splice : (s : List ℕ) (a : ℕ) (x : List ℕ) (n : ℕ) → length x ≡ n → a ≤ length s → win (splice s a x) a n ≡ x
unfolding splice win
win-splice s a x n e l = rw (drop_at (take a s) _ a (length-take-le a s l), take_at x _ n e)

pub take-splice : (s x : List ℕ) (n : ℕ) → length x ≡ n → take n (splice s 0 x) ≡ x
unfolding win
take-splice s x n e = win-splice s 0 x n e (omega arith)

pub win-splice_in : (s : List ℕ) (a : ℕ) (x : List ℕ) (i n : ℕ) → a ≤ length s → i + n ≤ length x → win (splice s a x) (a + i) n ≡ win x i n
unfolding splice
win-splice_in s a x i n l h = win-append (take a s) _ a i n (length-take-le a s l) ∙ win_front x _ i n h

pub win-splice-before : (s : List ℕ) (a : ℕ) (x : List ℕ) (b n : ℕ) → b + n ≤ a → a ≤ length s → win (splice s a x) b n ≡ win s b n
unfolding splice
win-splice-before s a x b n h l =
    let p : length (take a s) ≡ a = length-take-le a s l in
    win_front (take a s) _ b n (omega arith) ∙ sym (win_front (take a s) (drop a s) b n (omega arith)) ∙ rw take-append-drop

pub win-splice-after : (s : List ℕ) (a : ℕ) (x : List ℕ) (b n : ℕ) → a + length x ≤ length s → a + length x ≤ b → win (splice s a x) b n ≡ win s b n
unfolding win
win-splice-after s a x b n l h = rw (drop-splice s a x b l h)

-- a change of a part is a change of the whole
pub splice-win : (s : List ℕ) (a n i : ℕ) (x : List ℕ) → a + n ≤ length s → i + length x ≤ n → splice s a (splice (win s a n) i x) ≡ splice s (a + i) x
splice-win s a n i x l h =
    let m : List ℕ = win s a n in
    let lm : length m ≡ n = length-win s a n l in
    let ly : length (splice m i x) ≡ n = length-splice m i x (omega arith) ∙ lm in
    sym
    (ap (λ (t : List ℕ). splice t (a + i) x) (sym (splice_self s a n l) ∙ splice_is s a m n lm)
    ∙ splice-append (take a s) (m ++ drop (a + n) s) x a i (length-take-le a s (omega arith))
    ∙ ap (λ (t : List ℕ). take a s ++ t) (splice_front m (drop (a + n) s) x i (omega arith))
    ∙ sym (splice_is s a (splice m i x) n ly))

-- a window around what was written
win-splice_around : (s : List ℕ) (a n i : ℕ) (x : List ℕ) → a + n ≤ length s → i + length x ≤ n → win (splice s (a + i) x) a n ≡ splice (win s a n) i x
win-splice_around s a n i x l h =
    let lm : length (win s a n) ≡ n = length-win s a n l in
    rw (← splice-win s a n i x l h) (win-splice s a (splice (win s a n) i x) n (length-splice (win s a n) i x (omega arith) ∙ lm) (omega arith))

-- a second write to the same place
pub splice_over : (s x y : List ℕ) (a n : ℕ) → length x ≡ n → length y ≡ n → a + n ≤ length s → splice (splice s a x) a y ≡ splice s a y
unfolding win
splice_over s x y a n e f l =
    let t : take a (splice s a x) ≡ take a s = win-splice-before s a x 0 a (omega arith) (omega arith) in
    splice_is (splice s a x) a y n f ∙ rw (t, drop-splice s a x (a + n) (omega arith) (omega arith)) (sym (splice_is s a y n f))

-- writes to places apart may go in either order
pub splice_swap : (s x y : List ℕ) (a b : ℕ) → a + length x ≤ b → b + length y ≤ length s → splice (splice s b y) a x ≡ splice (splice s a x) b y
unfolding win
splice_swap s x y a b h l =
    let t : take b (splice s a x) ≡ splice (take b s) a x = rw zero-add at (win-splice_around s 0 b a x (omega arith) h) in
    let lt : length (take b s) ≡ b = length-take-le b s (omega arith) in
    ap (λ (r : List ℕ). splice r a x) (splice_is s b y (length y) refl)
    ∙ splice_front (take b s) (y ++ drop (b + length y) s) x a (omega arith)
    ∙ rw (← t, ← drop-splice s a x (b + length y) (omega arith) (omega arith)) (sym (splice_is (splice s a x) b y (length y) refl))
