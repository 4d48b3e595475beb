-- Seats of numbers side by side. The next number takes its place behind them, and its seat if that is free; a seat that is taken stays so. So
-- one that finds its seat free is new: the same number before it would have taken that seat or found it taken. One that finds another number
-- there is loose.
use mathlib.Core.Path.{◌≡◌, refl, sym, ap, ◌∙◌}
use mathlib.Core.Bool.{Bool, true, not}
use mathlib.Core.Logic.{⊎_elim}
use mathlib.Core.List.{List}
use Prim.Native.Nat.{ℕ, ◌+◌, ◌-◌, ◌≤◌, ◌<◌}
use native.Mathlib.Omega.{arith}
use lib.ListN.{length, set, length-set, length-replicate, replicate}
use lib.Bits.{bit_or}
use lib.Seq.{get_or-set_same, get_or-set_other}
use lib.Dec.{eqb}
use borrow.Author.Tests.{eq-eqb, ne_eqb, eqb-true, eqb-false, not-true, not-false}
use Rattle.lent.proofs.Choices.{clash}
use Rattle.machine.proofs.Views.{get_or-same}
use Rattle.machine.specs.Sizes.{session_count}
use Rattle.machine.specs.Sound.{distinct}
use Rattle.order.specs.Order.{side, item}
use Rattle.order.proofs.Numbers.{last_or, same_or, or_none, new-zero, new_unlike, distinct_more, twice_same}
use Rattle.joins.specs.Joins.{seat_count, seat_of, seats_with, loose_with, sits_with, Comes, Small, Stand, no_number, in_seat, at_large, Entered, Sat}
use Rattle.joins.proofs.Gathered.{gathered_none, gathered_more}
use Rattle.joins.proofs.Loose.{stand_kept, loosened_none}

-- where each seat is free
pub small_none : {m : ℕ} → Small m (replicate seat_count 0)
small_none = record { long = length-replicate {A = ℕ} seat_count 0; low = λ h. omega (arith, get_or-same {A = ℕ} seat_count h 0) }

pub entered_none : (f : ℕ → ℕ) {nums seats : List ℕ} → nums ≡ replicate side 0 → seats ≡ replicate seat_count 0 → Entered f 0 nums seats (replicate side 0)
entered_none f e o = rw (e, o) (record {
  gathered = gathered_none f;
  seated = record {
    small = small_none;
    held = λ j h. absurd (omega arith);
  };
  loosened = loosened_none;
})

small_more : {m n : ℕ} {seats : List ℕ} → m ≤ n → Small m seats → Small n seats
small_more h y = record { long = y.long; low = λ k. omega (arith, y.low k) }

module _ {f : ℕ → ℕ} {i : ℕ} {nums seats loose : List ℕ} (h : i < session_count) (y : Entered f i nums seats loose) where
  -- number i, and who has its seat
  abbrev n : ℕ
  n = f i

  abbrev by : ℕ
  by = item seats (seat_of n)

  abbrev placed : List ℕ
  placed = set nums i n

  mine : item placed i ≡ n
  mine = get_or-set_same nums i n 0 (omega (arith, y.gathered.long))

  others : (j : ℕ) → j < i → item placed j ≡ item nums j
  others j l = get_or-set_other nums i j n 0 (λ o. omega arith)

  -- taken seats stay, and number i has its seat or finds it taken
  module _ {seats' : List ℕ} (small : Small (i + 1) seats') (kept : (k : ℕ) → (item seats k ≡ 0 → ⊥) → item seats' k ≡ item seats k) (own : (n ≡ 0 → ⊥) → item seats' (seat_of n) ≡ 0 → ⊥) where
    entered_more : {loose' : List ℕ} → length loose' ≡ side → ((j : ℕ) → (j ≡ i → ⊥) → item loose' j ≡ item loose j) → Stand placed seats' i (item loose' i) → Entered f (i + 1) placed seats' loose'
    entered_more {loose'} long same stand = record {
      gathered = gathered_more f i nums n (omega arith) y.gathered refl;
      seated = record {
        small = small;
        held = λ j l z e. ⊎_elim
            (λ q. let x : item placed j ≡ n = rw q mine in own (λ w. z (x ∙ w)) (ap (λ (v : ℕ). item seats' (seat_of v)) (sym x) ∙ e))
            (λ a. let t = y.seated.held j a (λ w. z (others j a ∙ w)) in
            t (sym (kept (seat_of (item nums j)) t) ∙ (ap (λ (v : ℕ). item seats' (seat_of v)) (sym (others j a)) ∙ e)))
            (last_or j i l);
      };
      loosened = record {
        long = long;
        stands = λ j l. ⊎_elim (λ q. rw q stand) (λ a. rw (same j (λ o. omega arith)) (stand_kept placed seats' y.seated a others kept (y.loosened.stands j a))) (last_or j i l);
        rest = λ j l. same j (λ o. omega arith) ∙ y.loosened.rest j (omega arith);
      };
    }

    -- number i is not loose
    entered_quiet : Stand placed seats' i 0 → Entered f (i + 1) placed seats' loose
    entered_quiet stand = entered_more y.loosened.long (λ j d. refl) (rw (y.loosened.rest i (omega arith)) stand)

  sat_none : n ≡ 0 → Sat f i true placed seats loose
  sat_none e = record {
    entered = λ r. entered_quiet (small_more (omega arith) y.seated.small) (λ k z. refl) (λ z. absurd (z e)) (no_number (mine ∙ e) refl);
    new = λ z. new-zero f i n refl e;
    twice = λ r. clash true refl r;
  }

  module _ (used : n ≡ 0 → ⊥) where
    -- the seat of what is at place i now
    there : (seats' : List ℕ) → item seats' (seat_of (item placed i)) ≡ item seats' (seat_of n)
    there seats' = ap (λ (v : ℕ). item seats' (seat_of v)) mine

    module _ (free : by ≡ 0) where
      unlike : (j : ℕ) → j < i → f j ≡ n → ⊥
      unlike j l e =
          let x : item nums j ≡ n = y.gathered.is j l ∙ e in
          y.seated.held j l (λ z. used (sym x ∙ z)) (ap (λ (v : ℕ). item seats (seat_of v)) x ∙ free)

      abbrev taken : List ℕ
      taken = set seats (seat_of n) (i + 1)

      own : item taken (seat_of n) ≡ i + 1
      own = get_or-set_same seats (seat_of n) (i + 1) 0 (omega (arith, y.seated.small.long))

      sat_free : Sat f i true placed taken loose
      sat_free = record {
        entered = λ r. entered_quiet
            (record {
              long = length-set seats (seat_of n) (i + 1) ∙ y.seated.small.long;
              low = λ g. ⊎_elim
                  (λ e. let o : item taken g ≡ i + 1 = rw e own in omega (arith, o))
                  (λ d. omega (arith, get_or-set_other seats (seat_of n) g (i + 1) 0 d, y.seated.small.low g))
                  (same_or g (seat_of n));
            })
            (λ g z. get_or-set_other seats (seat_of n) g (i + 1) 0 (λ e. z (ap (item seats) e ∙ free)))
            (λ z e. let o : i + 1 ≡ 0 = sym own ∙ e in omega (arith, o))
            (in_seat (there taken ∙ own) refl);
        new = λ z. new_unlike f i n refl used unlike;
        twice = λ r. clash true refl r;
      }

    module _ (taken : by ≡ 0 → ⊥) where
      abbrev loosed : List ℕ
      loosed = set loose i n

      loose_now : item loosed i ≡ n
      loose_now = get_or-set_same loose i n 0 (omega (arith, y.loosened.long))

      met_before : by - 1 < i
      met_before = omega (arith, taken, y.seated.small.low (seat_of n))

      sat_loose : Sat f i (not (eqb (item placed (by - 1)) n)) placed seats loosed
      sat_loose = record {
        entered = λ r. entered_more
            (small_more (omega arith) y.seated.small)
            (λ k z. refl)
            (λ z e. taken e)
            (length-set loose i n ∙ y.loosened.long)
            (λ j d. get_or-set_other loose i j n 0 d)
            (at_large (λ e. eqb-false (item placed (by - 1)) n (not-true _ r) (ap (λ (x : ℕ). item placed (x - 1)) (sym (there seats)) ∙ (e ∙ mine))) (loose_now ∙ sym mine));
        new = λ z. absurd (used (sym loose_now ∙ z));
        twice = λ r. twice_same f session_count i (by - 1) h (omega (arith, met_before)) (λ e. omega (arith, e, met_before)) used
            (sym (eqb-true (item placed (by - 1)) n (not-false _ r)) ∙ (others (by - 1) met_before ∙ y.gathered.is (by - 1) met_before));
      }

  sits : Sat f i (sits_with placed seats n) placed (seats_with seats i n) (loose_with seats loose i n)
  sits =
      ⊎_elim
      (λ z. rw (eq-eqb n 0 z) (sat_none z))
      (λ u. rw (ne_eqb n 0 u) (⊎_elim (λ z. rw (eq-eqb by 0 z) (sat_free u z)) (λ t. rw (ne_eqb by 0 t) (sat_loose u t)) (same_or by 0)))
      (same_or n 0)

  pub number_sat : {r : Bool} {nums' seats' loose' : List ℕ} → Comes i n nums seats loose r nums' seats' loose' → Sat f i r nums' seats' loose'
  number_sat c = rw (c.sits, c.side_by_side, c.seated, c.loosened) sits

-- a turn of a loop that keeps whether a number is loose
pub sat_more : {f : ℕ → ℕ} {i crowd : ℕ} {r : Bool} {nums seats loose : List ℕ} → (crowd ≡ 0 → distinct f i ≡ true) → Sat f i r nums seats loose → bit_or crowd (item loose i) ≡ 0 → distinct f (i + 1) ≡ true
sat_more {f} {i} {crowd} {r} {nums} {seats} {loose} d y e = let o = or_none crowd (item loose i) e in distinct_more f i (d o.0) (y.new o.1)
