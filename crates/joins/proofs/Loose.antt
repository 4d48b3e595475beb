-- Numbers that stand in no seat. Two places with the same number have one seat: if one of them sits there, the other meets its number in the
-- seat; if neither does, both are loose. So where none meets its number, all are distinct if the loose ones are.
use mathlib.Core.Path.{◌≡◌, sym, ap, ◌∙◌}
use mathlib.Core.Bool.{true}
use mathlib.Core.Logic.{⊎_elim}
use mathlib.Core.List.{List}
use Prim.Native.Nat.{ℕ, ◌+◌, ◌-◌, ◌<◌}
use native.Mathlib.Omega.{arith}
use lib.ListN.{length-replicate, replicate}
use Rattle.lent.proofs.Choices.{case_of, clash}
use Rattle.machine.proofs.Every.{distinct-same}
use Rattle.machine.proofs.Views.{get_or-same}
use Rattle.machine.specs.Sound.{distinct}
use Rattle.order.specs.Order.{side, item}
use Rattle.joins.specs.Joins.{seat_of, Seated, Stand, no_number, in_seat, at_large, Loosened}
use Rattle.order.proofs.Numbers.{same_or, all_new}

-- what stands at place j stays if the numbers and the taken seats do
module _ {nums seats : List ℕ} {i j : ℕ} (nums' seats' : List ℕ) (y : Seated nums i seats) (l : j < i) (same : (k : ℕ) → k < i → item nums' k ≡ item nums k) (kept : (h : ℕ) → (item seats h ≡ 0 → ⊥) → item seats' h ≡ item seats h) where
  empty : {x : ℕ} → Stand nums seats j x → item nums j ≡ 0 → x ≡ 0
  empty (no_number z e) o = e
  empty (in_seat z e) o = e
  empty (at_large z e) o = e ∙ o

  has : (item nums j ≡ 0 → ⊥) → item seats' (seat_of (item nums' j)) ≡ item seats (seat_of (item nums j))
  has u = ap (λ (v : ℕ). item seats' (seat_of v)) (same j l) ∙ kept (seat_of (item nums j)) (y.held j l u)

  met : (item nums j ≡ 0 → ⊥) → item nums' (item seats' (seat_of (item nums' j)) - 1) ≡ item nums (item seats (seat_of (item nums j)) - 1)
  met u = ap (λ (q : ℕ). item nums' (q - 1)) (has u) ∙ same (item seats (seat_of (item nums j)) - 1) (omega (arith, y.held j l u, y.small.low (seat_of (item nums j))))

  stays : {x : ℕ} → (item nums j ≡ 0 → ⊥) → Stand nums seats j x → Stand nums' seats' j x
  stays u (no_number z e) = absurd (u z)
  stays u (in_seat z e) = in_seat (has u ∙ z) e
  stays u (at_large z e) = at_large (λ w. z (sym (met u) ∙ (w ∙ same j l))) (e ∙ sym (same j l))

  pub stand_kept : {x : ℕ} → Stand nums seats j x → Stand nums' seats' j x
  stand_kept t = ⊎_elim (λ o. no_number (same j l ∙ o) (empty t o)) (λ u. stays u t) (same_or (item nums j) 0)

module _ {nums seats : List ℕ} where
  pub loosened_none : Loosened nums seats 0 (replicate side 0)
  loosened_none = record {
    long = length-replicate {A = ℕ} side 0;
    stands = λ j h. absurd (omega arith);
    rest = λ j h. get_or-same {A = ℕ} side j 0;
  }

  stand_is : {j x : ℕ} → Stand nums seats j x → (x ≡ 0 → ⊥) → item nums j ≡ x
  stand_is (no_number z e) u = absurd (u e)
  stand_is (in_seat z e) u = absurd (u e)
  stand_is (at_large z e) u = sym e

  -- of two that are the same, each is loose
  stand_two : {i j x y : ℕ} → Stand nums seats i x → Stand nums seats j y → (i ≡ j → ⊥) → (item nums i ≡ 0 → ⊥) → item nums j ≡ item nums i → (x ≡ item nums i) × (y ≡ item nums j)
  stand_two {i} {j} a b d u q = go a b
    where
      seat : item seats (seat_of (item nums j)) ≡ item seats (seat_of (item nums i))
      seat = ap (λ (v : ℕ). item seats (seat_of v)) q

      -- k meets g, which sits in the seat of both
      met : (g k : ℕ) → item seats (seat_of (item nums g)) ≡ g + 1 → item seats (seat_of (item nums k)) ≡ item seats (seat_of (item nums g)) → item nums g ≡ item nums k → item nums (item seats (seat_of (item nums k)) - 1) ≡ item nums k
      met g k s e r = let o : item seats (seat_of (item nums k)) - 1 ≡ g = omega (arith, s, e) in rw o r

      go : {x y : ℕ} → Stand nums seats i x → Stand nums seats j y → (x ≡ item nums i) × (y ≡ item nums j)
      go (no_number z e) w = absurd (u z)
      go (in_seat z e) (no_number w f) = absurd (u (sym q ∙ w))
      go (in_seat z e) (in_seat w f) = absurd (d (omega (arith, z, w, seat)))
      go (in_seat z e) (at_large w f) = absurd (w (met i j z seat (sym q)))
      go (at_large w f) (no_number z e) = absurd (u (sym q ∙ z))
      go (at_large w f) (in_seat z e) = absurd (w (met j i z (sym seat) q))
      go (at_large w f) (at_large z e) = (f, e)

  module _ {m : ℕ} {loose : List ℕ} (y : Loosened nums seats m loose) where
    distinct_there : distinct (item nums) m ≡ true → distinct (item loose) m ≡ true
    distinct_there d =
        all_new (item loose) m
        (λ i j h l z q. let a : item nums i ≡ item loose i = stand_is (y.stands i h) z in
        let b : item nums j ≡ item loose j = stand_is (y.stands j (omega arith)) (λ w. z (sym q ∙ w)) in
        let e = distinct-same (item nums) m i j d h (omega arith) (omega arith) (a ∙ (sym q ∙ sym b)) in
        omega (arith, e))

    distinct_here : distinct (item loose) m ≡ true → distinct (item nums) m ≡ true
    distinct_here d =
        all_new (item nums) m
        (λ i j h l z q. let a = stand_two (y.stands i h) (y.stands j (omega arith)) (λ w. omega arith) z q in
        let e = distinct-same (item loose) m i j d h (omega arith) (omega (arith, a.0)) (a.0 ∙ (sym q ∙ sym a.1)) in
        omega (arith, e))

    pub loosened_distinct : distinct (item loose) m ≡ distinct (item nums) m
    loosened_distinct =
        ⊎_elim
        (λ t. t ∙ sym (distinct_here t))
        (λ n. n ∙ sym (⊎_elim (λ u. clash (distinct (item loose) m) (distinct_there u) n) (λ u. u) (case_of (distinct (item nums) m))))
        (case_of (distinct (item loose) m))
