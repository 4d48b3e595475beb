-- The decision table, once over all of it: the twenty entries are those of a rule in words (`verdict_by`), which is computed
-- over the whole table, and what the rule says of sharing, of the I lease on a quarantined key, and of voiding follows from it.
use mathlib.Core.Path.{◌≡◌, refl, ap, ◌∙◌}
use mathlib.Core.Bool.{true, false, ◌&&◌}
use mathlib.Core.List.{List, [], ◌∷◌, map}
use Prim.Native.Nat.{ℕ, zero, suc, ◌+◌, ◌≤◌, ◌<◌}
use native.Mathlib.Omega.{arith}
use lib.Dec.{eqb}
use borrow.Author.Tests.{eqb-true, ne_eqb}
use lib.ListN.{length, get_or, length-map, get_or-map}
use Rattle.std.proofs.lemmas.List.{get_or_default}
use Rattle.machine.specs.Words.{INVALIDATE}
use Rattle.machine.specs.Decision.{held_count, asked_count, decisions, decision, grants}
use Rattle.machine.specs.declared.Verdict.{Verdict}
use Rattle.machine.specs.declared.Verdict.TheVariants.{Grant, Void, BackOff, Abort}
use mathlib.Core.Logic.{◌⊎◌, inl, inr}
use Rattle.lent.proofs.Choices.{and_yes, case_of, clash}
use Rattle.machine.specs.Statements.{verdict_by}

abbrev from : ℕ → ℕ → List ℕ
from i zero = []
from i (suc n) = i ∷ from (suc i) n

from_at : (n i j d : ℕ) → j < n → get_or (from i n) j d ≡ i + j
from_at zero i j d h = absurd (omega arith)
from_at (suc n) i zero d h = omega arith
from_at (suc n) i (suc j) d h = from_at n (suc i) j d (omega arith) ∙ omega arith

-- from 0 the entry is the place
upto_at : (n j : ℕ) → j < n → get_or (from 0 n) j 0 ≡ j
upto_at n j h = from_at n 0 j 0 h ∙ omega arith

from-length : (n i : ℕ) → length (from i n) ≡ n
from-length zero i = refl
from-length (suc n) i = ap suc (from-length n (suc i))

-- the table, row by row, as the rule computes it
abbrev row_by : ℕ → List Verdict
row_by held = map (verdict_by held) (from 0 asked_count)

computed : decisions ≡ map row_by (from 0 held_count)
computed = refl

pub at_map : {A B : Type 0} (f : A → B) (l : List A) (i : ℕ) (d : A) (e : B) → i < length l → get_or (map f l) i e ≡ f (get_or l i d)
at_map f l i d e h = get_or_default (map f l) i e (f d) (rw (length-map l f) h) ∙ get_or-map f l i d

pub decision-by : (held asked : ℕ) → held < held_count → asked < asked_count → decision held asked ≡ verdict_by held asked
unfolding decision
decision-by held asked h a =
    ap (λ (l : List (List Verdict)). get_or (get_or l held []) asked Abort) computed
    ∙ ap (λ (l : List Verdict). get_or l asked Abort) (at_map row_by (from 0 held_count) held 0 [] (rw (from-length held_count 0) h) ∙ ap row_by (upto_at held_count held h))
    ∙ (at_map (verdict_by held) (from 0 asked_count) asked 0 Abort (rw (from-length asked_count 0) a) ∙ ap (verdict_by held) (upto_at asked_count asked a))

-- of two Q leases on one key, held (one more than its kind) and asked, only Q1 shares with Q1
pub only_Q1_shares : (held asked : ℕ) → suc INVALIDATE ≤ held → held < held_count → INVALIDATE ≤ asked → asked < asked_count → grants (decision held asked) ≡ true → (held ≡ suc INVALIDATE) × (asked ≡ INVALIDATE)
only_Q1_shares held asked l h m a e = go (case_of (eqb held (suc INVALIDATE) && eqb asked INVALIDATE))
  where
    here : grants (verdict_by held asked) ≡ true
    here = rw (decision-by held asked h a) at e

    go : ((eqb held (suc INVALIDATE) && eqb asked INVALIDATE) ≡ true) ⊎ ((eqb held (suc INVALIDATE) && eqb asked INVALIDATE) ≡ false) → (held ≡ suc INVALIDATE) × (asked ≡ INVALIDATE)
    go (inl q) = (eqb-true held (suc INVALIDATE) (and_yes (eqb held (suc INVALIDATE)) (eqb asked INVALIDATE) q).0, eqb-true asked INVALIDATE (and_yes (eqb held (suc INVALIDATE)) (eqb asked INVALIDATE) q).1)
    go (inr q) = clash false (rw (ne_eqb held 0 (λ p. omega arith), ne_eqb asked 0 (λ p. omega arith), ne_eqb held 1 (λ p. omega arith), q) at here) refl

pub Q1-shares : decision (suc INVALIDATE) INVALIDATE ≡ Grant
unfolding decision
Q1-shares = refl

-- a quarantined key, and one with an I lease, grants no I lease
pub quarantined_backs_off : (held : ℕ) → 1 ≤ held → held < held_count → decision held 0 ≡ BackOff
quarantined_backs_off held l h = decision-by held 0 h (omega arith) ∙ rw (ne_eqb held 0 (λ p. omega arith))

-- any Q voids an I lease
pub Q-voids-I : (asked : ℕ) → INVALIDATE ≤ asked → asked < asked_count → decision 1 asked ≡ Void
Q-voids-I asked m a = decision-by 1 asked (omega arith) a ∙ rw (ne_eqb asked 0 (λ p. omega arith))

-- where nothing is held everything is granted
pub free-grants : (asked : ℕ) → asked < asked_count → decision 0 asked ≡ Grant
free-grants asked a = decision-by 0 asked (omega arith) a

-- an I lease is granted over nothing only
pub held_blocks : (held : ℕ) → grants (decision (suc held) 0) ≡ false
unfolding decision
held_blocks zero = refl
held_blocks (suc zero) = refl
held_blocks (suc (suc zero)) = refl
held_blocks (suc (suc (suc zero))) = refl
held_blocks (suc (suc (suc (suc n)))) = refl
