-- Marks: setting one changes no other. So a number whose mark is not there before it sets it differs from each number that has one, since the
-- same number has the same mark.
use mathlib.Core.Path.{◌≡◌, refl, sym, ap, ◌∙◌}
use mathlib.Core.Bool.{Bool, true, false, ◌&&◌, ◌||◌, or-false, or-true}
use mathlib.Core.Logic.{⊎_elim}
use mathlib.Core.List.{List}
use Prim.Native.Nat.{ℕ, ◌+◌, ◌/◌, ◌%◌, ◌<◌}
use native.Mathlib.Omega.{arith}
use lib.ListN.{length, replicate, length-set, length-replicate}
use lib.Seq.{get_or-set_same, get_or-set_other}
use lib.Dec.{eqb}
use borrow.Author.Tests.{eq-eqb, ne_eqb}
use Rattle.lent.proofs.Choices.{or_no, clash}
use Rattle.machine.specs.Sound.{new_at, distinct}
use Rattle.joins.specs.Bits.{word_bits, has_bit, with_bit}
use Rattle.order.specs.Order.{item}
use Rattle.joins.specs.Joins.{mark_words, has_mark, with_mark, set_bit, meets_mark, noted, Marked, Met}
use Rattle.joins.proofs.Bits.{bit_with}
use Rattle.order.proofs.Numbers.{last_or, same_or, new-zero, new_unlike, distinct_more}

pub set_bit_lem : (marks : List ℕ) (k b : ℕ) → k < length marks → (a c : ℕ) → has_bit (item (set_bit marks k b) a) c ≡ (has_bit (item marks a) c || (eqb a k && eqb c b))
set_bit_lem marks k b h a c =
    ⊎_elim
    (λ e. let g : item (set_bit marks k b) a ≡ with_bit (item marks k) b = rw e (get_or-set_same marks k (with_bit (item marks k) b) 0 h) in
    rw (g, eq-eqb a k e, e) (bit_with (item marks k) b c))
    (λ e. rw (get_or-set_other marks k a (with_bit (item marks k) b) 0 e, ne_eqb a k e, or-false))
    (same_or a k)

-- ---- the marks of numbers

pub marked-none : (f : ℕ → ℕ) → Marked f 0 (replicate mark_words 0)
marked-none f = record { long = length-replicate {A = ℕ} mark_words 0; has = λ j l. absurd (omega arith) }

module _ {f : ℕ → ℕ} {k : ℕ} {marks : List ℕ} (y : Marked f k marks) where
  met_none : f k ≡ 0 → Met f k false marks
  met_none e = record {
    marked = record { long = y.long; has = λ j l z. ⊎_elim (λ q. absurd (z (ap f q ∙ e))) (λ a. y.has j a z) (last_or j k l) };
    new = λ r. new-zero f k (f k) refl e;
  }

  module _ (used : f k ≡ 0 → ⊥) where
    unmet : has_mark marks (f k) ≡ false → new_at f k ≡ true
    unmet free = new_unlike f k (f k) refl used (λ j l q. clash (has_mark marks (f k)) (ap (has_mark marks) (sym q) ∙ y.has j l (λ z. used (sym q ∙ z))) free)

    own : (m : ℕ) → m ≡ f k → has_mark marks m || (eqb (m / word_bits % mark_words) (f k / word_bits % mark_words) && eqb (m % word_bits) (f k % word_bits)) ≡ true
    own m q = rw (q, eq-eqb (f k / word_bits % mark_words) (f k / word_bits % mark_words) refl, eq-eqb (f k % word_bits) (f k % word_bits) refl) (or-true (has_mark marks (f k)))

    met_marked : Met f k (has_mark marks (f k)) (with_mark marks (f k))
    met_marked = record {
      marked = record {
        long = length-set marks (f k / word_bits % mark_words) _ ∙ y.long;
        has = λ j l z. set_bit_lem marks (f k / word_bits % mark_words) (f k % word_bits) (omega (arith, y.long)) (f j / word_bits % mark_words) (f j % word_bits)
            ∙ ⊎_elim (λ q. own (f j) (ap f q)) (λ a. rw (y.has j a z)) (last_or j k l);
      };
      new = unmet;
    }

  pub met_noted : {r : Bool} {marks' : List ℕ} → r ≡ meets_mark marks (f k) → marks' ≡ noted marks (f k) → Met f k r marks'
  met_noted e o = rw (e, o) (⊎_elim (λ z. rw (eq-eqb (f k) 0 z) (met_none z)) (λ u. rw (ne_eqb (f k) 0 u) (met_marked u)) (same_or (f k) 0))

-- a turn of a loop that keeps whether any number met the mark of another
pub met_more : {f : ℕ → ℕ} {k : ℕ} {r met : Bool} {marks : List ℕ} → (met ≡ false → distinct f k ≡ true) → Met f k r marks → met || r ≡ false → distinct f (k + 1) ≡ true
met_more {f} {k} {r} {met} d y e = let o = or_no met r e in distinct_more f k (d o.0) (y.new o.1)
