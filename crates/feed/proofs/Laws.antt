-- The held bytes as a list: a byte that is pushed makes the list that the definition makes, and it never grows past its most. Bytes in a
-- row are the earlier ones and then the last.
use Rattle.std.specs.Prelude.{if◌then◌else◌}
use mathlib.Core.Path.{◌≡◌, refl, sym, ap, ◌∙◌}
use mathlib.Core.List.{List, [], ◌∷◌, ◌++◌}
use Prim.Native.Nat.{ℕ, zero, suc, ◌+◌, ◌≤◌, ◌<◌}
use native.Mathlib.Numerals.{add-one}
use native.Mathlib.Omega.{arith}
use lib.ListN.{length, take, set, length-append, length-take, length-set}
use lib.Seq.{length-take-le, take_all, take-suc-set, take-append-le}
use mathlib.Core.Bool.{Bool, true, false, ◌||◌}
use lib.Dec.{eqb, leb}
use borrow.Author.Tests.{leb-true, leb-false}
use Rattle.lent.proofs.Choices.{zero_one}
use Rattle.lent.specs.Text.{newline}
use Rattle.feed.specs.Lines.{held_max}
use Rattle.feed.specs.Held.{Buffer, taken, line_after, pushed, pushed_all}
use Rattle.feed.specs.declared.Taken.{Taken}

-- there is a place: the byte stands behind the held ones
held_more : (line : List ℕ) (h b : ℕ) → h < held_max → h < length line → take (h + 1) (set line h b) ≡ take held_max (take h line ++ b ∷ [])
held_more line h b m l =
    let e : length (take h line ++ b ∷ []) ≤ held_max = simp (length-append, length-take) (omega arith) in
    rw (add-one, take-suc-set line h b l) (sym (take_all held_max (take h line ++ b ∷ []) e))

-- there is none: the byte is let go
held_full : (line : List ℕ) (h b : ℕ) → h ≡ held_max → h ≤ length line → take h line ≡ take held_max (take h line ++ b ∷ [])
held_full line h b m l =
    let n : length (take h line) ≡ held_max = length-take-le h line l ∙ m in
    sym (take-append-le held_max (take h line) (b ∷ []) (omega arith) ∙ take_all held_max (take h line) (omega arith))

-- bytes that were let go before make no difference
pub take_grow : (n : ℕ) (h x : List ℕ) → take n (take n h ++ x) ≡ take n (h ++ x)
take_grow zero h x = refl
take_grow (suc n) [] x = refl
take_grow (suc n) (a ∷ h) x = ap (λ (l : List ℕ). a ∷ l) (take_grow n h x)

pub length-after : (line : List ℕ) (held b : ℕ) → length (line_after line held b) ≡ length line
unfolding line_after
length-after line held b = go (eqb b newline) (leb held_max held || leb (length line) held)
  where
    go : (t u : Bool) → length (if t then line else if u then line else set line held b) ≡ length line
    go true u = refl
    go false true = refl
    go false false = length-set line held b

-- what is known where a byte is held, in a buffer of the size of a line
pub record ByteHeld (line : List ℕ) (held b n : ℕ) (after : List ℕ) : Type 0 where
  pub other : eqb b newline ≡ false
  pub most : n ≤ held_max
  pub bytes : take n after ≡ take held_max (take held line ++ b ∷ [])

pub taken_held : (line : List ℕ) (held b n : ℕ) → length line ≡ held_max → held ≤ held_max → taken line held b ≡ Taken.Held n → ByteHeld line held b n (line_after line held b)
unfolding taken line_after
taken_held line held b n l m q = go (eqb b newline) (leb held_max held) (leb (length line) held) refl refl refl q
  where
    full : n ≡ held → held_max ≤ held → eqb b newline ≡ false → ByteHeld line held b n line
    full z f e = record { other = e; most = omega arith; bytes = rw z (held_full line held b (omega arith) (omega arith)) }

    go : (t u v : Bool) → eqb b newline ≡ t → leb held_max held ≡ u → leb (length line) held ≡ v
        → (if t then Taken.Line held else if u || v then Taken.Held held else Taken.Held (held + 1)) ≡ Taken.Held n
        → ByteHeld line held b n (if t then line else if u || v then line else set line held b)
    go true u v e f g q = zero_one cc
    go false true v e f g q = full (cc) (leb-true held_max held f) e
    go false false true e f g q = let k = leb-true (length line) held g in full (cc) (omega arith) e
    go false false false e f g q =
        let z : n ≡ held + 1 = cc in
        let k = leb-false held_max held f in
        let j = leb-false (length line) held g in
        record { other = e; most = omega arith; bytes = rw z (held_more line held b k j) }

-- what is known where a line is whole
pub record LineWhole (line : List ℕ) (held b n : ℕ) (after : List ℕ) : Type 0 where
  pub ends : eqb b newline ≡ true
  pub number : n ≡ held
  pub same : after ≡ line

pub taken_line : (line : List ℕ) (held b n : ℕ) → taken line held b ≡ Taken.Line n → LineWhole line held b n (line_after line held b)
unfolding taken line_after
taken_line line held b n q = go (eqb b newline) (leb held_max held || leb (length line) held) refl q
  where
    go : (t u : Bool) → eqb b newline ≡ t → (if t then Taken.Line held else if u then Taken.Held held else Taken.Held (held + 1)) ≡ Taken.Line n
        → LineWhole line held b n (if t then line else if u then line else set line held b)
    go true u e q = record { ends = e; number = cc; same = refl }
    go false true e q = zero_one cc
    go false false e q = zero_one cc

pub pushed_none : (k : Buffer) → pushed_all k [] ≡ k
unfolding pushed_all
pushed_none k = refl

pub pushed_more : (k : Buffer) (bs : List ℕ) (b : ℕ) → pushed_all k (bs ++ b ∷ []) ≡ pushed (pushed_all k bs) b
unfolding pushed_all
pushed_more k [] b = refl
pushed_more k (a ∷ bs) b = pushed_more (pushed k a) bs b
