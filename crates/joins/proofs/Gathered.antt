-- The numbers of a table put side by side, one after the other: each stands at its place, and they are distinct exactly if those of the table are.
use mathlib.Core.Path.{◌≡◌, ◌∙◌}
use mathlib.Core.Logic.{⊎_elim}
use mathlib.Core.List.{List}
use Prim.Native.Nat.{ℕ, ◌+◌, ◌<◌}
use native.Mathlib.Omega.{arith}
use lib.ListN.{set, length-set, length-replicate, replicate}
use lib.Seq.{get_or-set_same, get_or-set_other}
use Rattle.machine.proofs.Views.{get_or-same}
use Rattle.machine.specs.Sound.{distinct}
use Rattle.order.specs.Order.{side, item}
use Rattle.order.proofs.Numbers.{last_or, distinct_cong}
use Rattle.joins.specs.Joins.{Gathered}

pub gathered_none : (f : ℕ → ℕ) → Gathered f 0 (replicate side 0)
gathered_none f = record {
  long = length-replicate {A = ℕ} side 0;
  is = λ j h. absurd (omega arith);
  rest = λ j h. get_or-same {A = ℕ} side j 0;
}

pub gathered_more : (f : ℕ → ℕ) (i : ℕ) (nums : List ℕ) (n : ℕ) → i < side → Gathered f i nums → n ≡ f i → Gathered f (i + 1) (set nums i n)
gathered_more f i nums n h g e = record {
  long = length-set nums i n ∙ g.long;
  is = λ j l. ⊎_elim
      (λ o. rw o (get_or-set_same nums i n 0 (omega (arith, g.long)) ∙ e))
      (λ a. get_or-set_other nums i j n 0 (λ o. omega arith) ∙ g.is j a)
      (last_or j i l);
  rest = λ j l. get_or-set_other nums i j n 0 (λ o. omega arith) ∙ g.rest j (omega arith);
}

pub distinct_gathered : (f : ℕ → ℕ) (m : ℕ) (nums : List ℕ) → Gathered f m nums → distinct (item nums) m ≡ distinct f m
distinct_gathered f m nums g = distinct_cong (item nums) f m g.is
