-- Loops and runs of stores that write a stretch: each store writes the next byte behind those that are written, or, going down, before them.
use mathlib.Core.Path.{◌≡◌, refl, ◌∙◌}
use mathlib.Core.List.{List, [], ◌∷◌, ◌++◌}
use Prim.Native.Nat.{ℕ, suc, ◌+◌, ◌-◌, ◌≤◌, ◌<◌}
use native.Mathlib.Omega.{arith}
use lib.ListN.{length, get_or, set}
use Rattle.lent.specs.Bytes.{splice, win}
use Rattle.lent.proofs.Splice.{get_or-splice-after, get_or-splice-before, length-splice, length-win, set-splice, splice-next, splice_swap, win-cons, win-more}

-- one more byte behind what was written
splice_snoc : (s : List ℕ) (a : ℕ) (x : List ℕ) (n v : ℕ) → length x ≡ n → a + n < length s → set (splice s a x) (a + n) v ≡ splice s a (x ++ (v ∷ []))
splice_snoc s a x n v e h =
    let l : length (splice s a x) ≡ length s = length-splice s a x (omega arith) in
    set-splice (splice s a x) (a + n) v (omega arith) ∙ splice-next s x (v ∷ []) a n e (omega arith)

-- two stores in a row
pub stores2 : (s : List ℕ) (a b c : ℕ) → a + 2 ≤ length s → set (set s a b) (a + 1) c ≡ splice s a (b ∷ c ∷ [])
stores2 s a b c h = rw (set-splice s a b (omega arith)) (splice_snoc s a (b ∷ []) 1 c refl (omega arith))

-- a turn of a loop that copies from t, first byte first
pub copy_turn : (s₀ s t : List ℕ) (to from i v : ℕ) → to + i < length s₀ → from + i < length t → v ≡ get_or t (from + i) 0 → s ≡ splice s₀ to (win t from i)
    → set s (to + i) v ≡ splice s₀ to (win t from (i + 1))
copy_turn s₀ s t to from i v h k g e =
    rw (e, g, splice_snoc s₀ to (win t from i) i (get_or t (from + i) 0) (length-win t from i (omega arith)) h, win-more t from i k)

-- down, within one list: what is still to be read lies behind what was written
pub copy_down_turn : (s₀ s : List ℕ) (to from i : ℕ) → to ≤ from → from + i < length s₀ → s ≡ splice s₀ to (win s₀ from i)
    → set s (to + i) (get_or s (from + i) 0) ≡ splice s₀ to (win s₀ from (i + 1))
copy_down_turn s₀ s to from i d h e =
    let l : length (win s₀ from i) ≡ i = length-win s₀ from i (omega arith) in
    copy_turn s₀ s s₀ to from i (get_or s (from + i) 0) (omega arith) h (rw e (get_or-splice-after s₀ to (win s₀ from i) (from + i) (omega arith) (omega arith))) e

-- one more byte before what was written
splice-cons : (s : List ℕ) (a : ℕ) (x : List ℕ) (v : ℕ) → a + 1 + length x ≤ length s → set (splice s (a + 1) x) a v ≡ splice s a (v ∷ x)
splice-cons s a x v h =
    let l : length (splice s (a + 1) x) ≡ length s = length-splice s (a + 1) x h in
    set-splice (splice s (a + 1) x) a v (omega arith) ∙ splice_swap s (v ∷ []) x a (a + 1) (omega arith) h ∙ splice-next s (v ∷ []) x a 1 refl h

-- up, last byte first: what is still to be read lies before what was written
pub copy_up_turn : (s₀ s : List ℕ) (to from n i : ℕ) → 0 < i → i ≤ n → from ≤ to → to + n ≤ length s₀ → s ≡ splice s₀ (to + i) (win s₀ (from + i) (n - i))
    → set s (to + (i - 1)) (get_or s (from + (i - 1)) 0) ≡ splice s₀ (to + (i - 1)) (win s₀ (from + (i - 1)) (n - (i - 1)))
copy_up_turn s₀ s to from n i z u d h e =
    let a : ℕ = from + (i - 1) in
    let b : ℕ = to + (i - 1) in
    let qa : from + i ≡ a + 1 = omega arith in
    let qb : to + i ≡ b + 1 = omega arith in
    let qn : n - (i - 1) ≡ suc (n - i) = omega arith in
    let l : length (win s₀ (a + 1) (n - i)) ≡ n - i = length-win s₀ (a + 1) (n - i) (omega arith) in
    let e' : s ≡ splice s₀ (b + 1) (win s₀ (a + 1) (n - i)) = rw (qa, qb) at e in
    let g : get_or s a 0 ≡ get_or s₀ a 0 = rw e' (get_or-splice-before s₀ (b + 1) (win s₀ (a + 1) (n - i)) a (omega arith) (omega arith)) in
    rw (g, qn, win-cons s₀ a (n - i) (omega arith), e') (splice-cons s₀ b (win s₀ (a + 1) (n - i)) (get_or s₀ a 0) (omega arith))
