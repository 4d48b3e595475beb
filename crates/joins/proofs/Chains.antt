-- Chains: a number that is at no place of its chain is new, since the same number is on the same chain. A place comes to the front of a chain, so the
-- chains before it stay as they were.
use mathlib.Core.Path.{◌≡◌, sym, ap, ◌∙◌}
use mathlib.Core.Bool.{true}
use mathlib.Core.Logic.{◌⊎◌, ⊎_elim, inl, inr}
use mathlib.Core.List.{List}
use Prim.Native.Nat.{ℕ, ◌+◌, ◌-◌, ◌<◌}
use native.Mathlib.Omega.{arith}
use lib.ListN.{set, replicate, length-set, length-replicate}
use lib.Seq.{get_or-set_same, get_or-set_other}
use Rattle.machine.specs.Sound.{new_at}
use Rattle.order.specs.Order.{side, item}
use Rattle.order.proofs.Numbers.{last_or, same_or, new-zero, new_unlike}
use Rattle.joins.specs.Joins.{chain_count, chain_of, Linked, here, there, Chained, Passed}

-- ---- the places of a chain

linked_more : {next : List ℕ} {b j : ℕ} {q : ℕ} → Linked next b j q → Linked next (b + 1) j q
linked_more {q = q} (here l e) = here {q = q} (omega arith) e
linked_more {q = q} (there l t) = there {q = q} (omega arith) (linked_more t)

linked_set : {next : List ℕ} {b j : ℕ} (v : ℕ) {q : ℕ} → Linked next b j q → Linked (set next b v) b j q
linked_set v {q} (here l e) = here {q = q} l e
linked_set {next} {b} v {q} (there l t) = there {q = q} l (rw (get_or-set_other next b q v 0 (λ z. omega (arith, z))) (linked_set v t))

-- n was compared along a chain: each place of it was passed, or is still ahead
pub record Ahead (nums next : List ℕ) (from n q : ℕ) : Type 0 where
  pub passed_or : (k j : ℕ) → k < side → Linked next k j from → (item nums j ≡ n → ⊥) ⊎ Linked next k j q

module _ {nums next : List ℕ} {from n : ℕ} where
  pub ahead_all : Ahead nums next from n from
  ahead_all = record { passed_or = λ k j l y. inr y }

  pub ahead_less : {q : ℕ} → Ahead nums next from n q → (item nums q ≡ n → ⊥) → Ahead nums next from n (item next q)
  ahead_less {q} a f = record { passed_or = λ k j l y. ⊎_elim inl (step k j) (a.passed_or k j l y) }
    where
      step : (k j : ℕ) → Linked next k j q → (item nums j ≡ n → ⊥) ⊎ Linked next k j (item next q)
      step k j (here l e) = inl (λ z. f (ap (item nums) e ∙ z))
      step k j (there l t) = inr t

  -- the last place is on no chain
  pub ahead_none : {q : ℕ} → Ahead nums next from n q → q ≡ side - 1 → Passed nums next from n
  ahead_none {q} a e k j l y z = ⊎_elim (λ f. f z) stop (a.passed_or k j l y)
    where
      stop : Linked next k j q → ⊥
      stop (here m o) = omega (arith, m, e, l)
      stop (there m t) = omega (arith, m, e, l)

-- ---- the chains of numbers

pub chained_none : (nums : List ℕ) → Chained nums 0 (replicate chain_count (side - 1)) (replicate side (side - 1))
chained_none nums = record {
  heads_are = length-replicate {A = ℕ} chain_count (side - 1);
  next_are = length-replicate {A = ℕ} side (side - 1);
  linked = λ j l. absurd (omega arith);
}

-- n is number k
module _ {nums heads next : List ℕ} {k n : ℕ} (y : Chained nums k heads next) (is : n ≡ item nums k) where
  pub chained_zero : n ≡ 0 → Chained nums (k + 1) heads next × (new_at (item nums) k ≡ true)
  chained_zero e = (
    record {
      heads_are = y.heads_are;
      next_are = y.next_are;
      linked = λ j l z. ⊎_elim (λ o. absurd (z (ap (item nums) o ∙ (sym is ∙ e)))) (λ a. linked_more (y.linked j a z)) (last_or j k l);
    },
    new-zero (item nums) k n is e,
  )

  module _ (used : n ≡ 0 → ⊥) {h q : ℕ} (ish : h ≡ chain_of n) (isq : q ≡ item heads h) where
    pub new_passed : Passed nums next q n → k < side → new_at (item nums) k ≡ true
    new_passed f low = new_unlike (item nums) k n is used (λ j l e. f k j low (rw (isq, ish, ← e) (y.linked j l (λ z. used (sym e ∙ z)))) e)

    pub chained_more : h < chain_count → k < side → Chained nums (k + 1) (set heads h k) (set next k q)
    chained_more a b = record {
      heads_are = length-set heads h k ∙ y.heads_are;
      next_are = length-set next k q ∙ y.next_are;
      linked = λ j l z. ⊎_elim (λ e. last j e) (λ m. before j m z) (last_or j k l);
    }
      where
        front : (m : ℕ) → chain_of m ≡ h → item (set heads h k) (chain_of m) ≡ k
        front m e = rw e (get_or-set_same heads h k 0 (omega (arith, y.heads_are)))

        last : (j : ℕ) → j ≡ k → Linked (set next k q) (k + 1) j (item (set heads h k) (chain_of (item nums j)))
        last j e = rw (front (item nums j) (ap (λ (x : ℕ). chain_of (item nums x)) e ∙ (ap chain_of (sym is) ∙ sym ish))) (here {q = k} (omega arith) (sym e))

        kept : (j : ℕ) → j < k → (item nums j ≡ 0 → ⊥) → Linked (set next k q) (k + 1) j (item heads (chain_of (item nums j)))
        kept j l z = linked_more (linked_set q (y.linked j l z))

        before : (j : ℕ) → j < k → (item nums j ≡ 0 → ⊥) → Linked (set next k q) (k + 1) j (item (set heads h k) (chain_of (item nums j)))
        before j l z =
            ⊎_elim
            (λ e. let o : item (set next k q) k ≡ item heads (chain_of (item nums j)) = get_or-set_same next k q 0 (omega (arith, y.next_are)) ∙ (isq ∙ ap (item heads) (sym e)) in
            rw (front (item nums j) e) (there {q = k} (omega arith) (rw o (kept j l z))))
            (λ e. rw (get_or-set_other heads h (chain_of (item nums j)) k 0 e) (kept j l z))
            (same_or (chain_of (item nums j)) h)
