-- The place of a number among numbers side by side, where none but 0 stands twice: a place at which it stands is its first.
use Rattle.std.specs.Prelude.{Option, Some, None, IfSome, SomeIff}
use Rattle.std.proofs.Common.{rules}
use Rattle.std.proofs.lemmas.Option.{none-some as none_is_some, same_Some}
use mathlib.Core.Path.{◌≡◌, refl, sym, ap, ◌∙◌}
use mathlib.Core.Bool.{true, false, not}
use mathlib.Core.List.{List}
use Prim.Native.Nat.{ℕ, ◌-◌, ◌≤◌, ◌<◌}
use native.Mathlib.Omega.{arith}
use lib.Dec.{eqb}
use borrow.Author.Tests.{eq-eqb, ne_eqb, eqb-true, eqb-false}
use Rattle.lent.proofs.Walks.{all-every, some_at, none-some, Search, found, nowhere, first_search}
use Rattle.machine.proofs.Every.{distinct-same}
use Rattle.machine.specs.Sizes.{session_count}
use Rattle.machine.specs.Sound.{distinct}
use Rattle.order.specs.Order.{item, Stood, places_of}
use Rattle.order.proofs.Standing.{places_none, places_only}
use Rattle.joins.specs.Joins.{session_numbers, is_live, Gathered, Alone, first_place}

-- ---- a number that stands once

pub once_alone : (nums : List ℕ) (n : ℕ) → distinct (item nums) session_count ≡ true → (n ≡ 0 → ⊥) → Alone nums n
once_alone nums n d used j k a b e g = distinct-same (item nums) session_count j k d a b (omega (arith, e)) (e ∙ sym g)

module _ (nums : List ℕ) (n : ℕ) where
  -- n stands at a place, or nowhere
  pub data Place : Option ℕ → Type 0 where
    at_place : {m : ℕ} → m < session_count → item nums m ≡ n → Place (Some m)
    no_place : ((j : ℕ) → j < session_count → item nums j ≡ n → ⊥) → Place None

  first_is : Place (first_place nums n)
  first_is = go (first_place nums n) (first_search (λ j. eqb (item nums j) n) Some None session_count 0)
    where
      go : (r : Option ℕ) → Search (λ j. eqb (item nums j) n) Some None r 0 session_count → Place r
      go r (found k q a b c f) = rw q (at_place {m = k} (omega arith) (eqb-true (item nums k) n c))
      go r (nowhere q f) = rw q (no_place (λ j h e. eqb-false (item nums j) n (f j (omega arith) (omega arith)) e))

  -- a place at which it stands
  pub first-at : Alone nums n → {m : ℕ} → m < session_count → item nums m ≡ n → Some m ≡ first_place nums n
  first-at a {m} l e = go (first_place nums n) first_is
    where
      go : (p : Option ℕ) → Place p → Some m ≡ p
      go _ (at_place {m = k} h o) = ap (λ (x : ℕ). Some x) (a m k l h e o)
      go _ (no_place f) = absurd (f m l e)

  -- r is its first place
  abbrev pub Found : Option ℕ → Type 0
  Found r = (r ≡ first_place nums n) × IfSome r (λ p. p < session_count)

  -- a place that was tested
  pub first_stood : Alone nums n → {p : ℕ} → Stood nums n (Some p) → Found (Some p)
  first_stood a t = (first-at a t.0 t.1, t.0)

  -- its places joined, less 1
  pub first-joined : Alone nums n → {r : Option ℕ} → SomeIff r (1 ≤ places_of nums n session_count) (places_of nums n session_count - 1) → Found r
  first-joined a {r} y = go (first_place nums n) first_is r y
    where
      joined : ((j : ℕ) → j < session_count → item nums j ≡ n → ⊥) → places_of nums n session_count ≡ 0
      joined f = eqb-true (places_of nums n session_count) 0 (places_none nums n session_count ∙ all-every (λ j. not (eqb (item nums j) n)) session_count (λ j l. ap not (ne_eqb (item nums j) n (f j l))))

      go : (p : Option ℕ) → Place p → (r : Option ℕ) → SomeIff r (1 ≤ places_of nums n session_count) (places_of nums n session_count - 1) → (r ≡ p) × IfSome r (λ q. q < session_count)
      go _ (at_place {m = k} h w) None y = absurd (y (omega (arith, places_only nums n session_count k h w (λ j l g. a j k l h g w))))
      go _ (at_place {m = k} h w) (Some q) y = let e : q ≡ k = omega (arith, y.0, y.1, places_only nums n session_count k h w (λ j l g. a j k l h g w)) in (ap (λ (x : ℕ). Some x) e, omega arith)
      go _ (no_place f) None y = (refl, search rules)
      go _ (no_place f) (Some q) y = absurd (omega (arith, y.0, joined f))

-- ---- what a place says of the session

pub record Stands (s nums : List ℕ) (n p : ℕ) : Type 0 where
  pub live : is_live s n ≡ true
  pub here : item nums p ≡ n
  pub low : p < session_count

module _ (s nums : List ℕ) (g : Gathered (session_numbers s) session_count nums) (n : ℕ) where
  dead_by : (p : Option ℕ) → Place nums n p → p ≡ None → is_live s n ≡ false
  unfolding is_live
  dead_by _ (at_place {m} l e) z = absurd (none_is_some m (sym z))
  dead_by _ (no_place f) z = none-some (λ j. eqb (session_numbers s j) n) session_count (λ j l. ne_eqb (session_numbers s j) n (λ e. f j l (g.is j l ∙ e)))

  stands_at : {m : ℕ} → m < session_count → item nums m ≡ n → Stands s nums n m
  unfolding is_live
  stands_at {m} l e = record {
    live = some_at (λ j. eqb (session_numbers s j) n) session_count m l (eq-eqb (session_numbers s m) n (sym (g.is m l) ∙ e));
    here = e;
    low = l;
  }

  live_by : (p : Option ℕ) → Place nums n p → {q : ℕ} → p ≡ Some q → Stands s nums n q
  live_by _ (at_place {m} l e) {q} z = rw (sym (same_Some m q z)) (stands_at l e)
  live_by _ (no_place f) {q} z = absurd (none_is_some q z)

  pub place_dead : first_place nums n ≡ None → is_live s n ≡ false
  place_dead = dead_by (first_place nums n) (first_is nums n)

  pub place_live : {q : ℕ} → first_place nums n ≡ Some q → Stands s nums n q
  place_live = live_by (first_place nums n) (first_is nums n)
