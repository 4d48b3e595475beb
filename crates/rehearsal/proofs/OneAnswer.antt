-- One answer: the contracts of the two public functions are equations whose right sides are fixed by what the caller lent, so two returns that satisfy one are equal.
use Prim.Native.Nat.{ℕ}
use mathlib.Core.Path.{◌≡◌, sym, ◌∙◌}
use mathlib.Core.List.{List}
use Rattle.rehearsal.specs.Rehearsal.{Left, Leaves, line_of, end_of}

one_left : (l : Left) (r t : ℕ) (x y b c o p : List ℕ) → Leaves l r x b o → Leaves l t y c p → (r ≡ t) × ((x ≡ y) × ((b ≡ c) × (o ≡ p)))
one_left l r t x y b c o p h g = (h.length ∙ sym g.length, (h.cache ∙ sym g.cache, (h.book ∙ sym g.book, h.out ∙ sym g.out)))

pub one_line : (cache book line out : List ℕ) (r t : ℕ) (x y b c o p : List ℕ) → Leaves (line_of cache book line out) r x b o → Leaves (line_of cache book line out) t y c p → (r ≡ t) × ((x ≡ y) × ((b ≡ c) × (o ≡ p)))
one_line cache book line out = one_left (line_of cache book line out)

pub one_end : (book out : List ℕ) (r t : ℕ) (o p : List ℕ) → (r ≡ (end_of book out).length) × (o ≡ (end_of book out).out) → (t ≡ (end_of book out).length) × (p ≡ (end_of book out).out) → (r ≡ t) × (o ≡ p)
one_end book out r t o p h g = (h.0 ∙ sym g.0, h.1 ∙ sym g.1)
