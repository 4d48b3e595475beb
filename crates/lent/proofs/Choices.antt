-- Choices and tests by the value of a Boolean: each law is its two cases.
use Rattle.std.specs.Prelude.{if◌then◌else◌}
use mathlib.Core.Path.{◌≡◌, refl, sym, ap, ◌∙◌}
use mathlib.Core.Logic.{◌⊎◌, inl, inr}
use mathlib.Core.Bool.{Bool, true, false, not, ◌&&◌, ◌||◌, and-false}
use Prim.Native.Nat.{ℕ}
use native.Mathlib.Omega.{arith}

pub case_of : (t : Bool) → (t ≡ true) ⊎ (t ≡ false)
case_of true = inl refl
case_of false = inr refl

-- what follows from unlike things that are said to be equal: `cc`, from any such equation at hand, gives this one
pub zero_one : {A : Type 0} → ◌≡◌ {A = ℕ} 0 1 → A
zero_one z = absurd (omega (arith, z))

pub clash : {A : Type 0} (t : Bool) → t ≡ true → t ≡ false → A
clash t p q = zero_one cc

-- ---- what a call says of its definition's test, by the branch on its result

pub test_failed : {r t : Bool} → r ≡ t → r ≡ false → t ≡ false
test_failed e n = sym e ∙ n

pub test_passed : {r t : Bool} → r ≡ t → r ≡ true → t ≡ true
test_passed e n = sym e ∙ n

-- ---- both, and one of two

pub and_yes : (t u : Bool) → t && u ≡ true → (t ≡ true) × (u ≡ true)
and_yes true u e = (refl, e)
and_yes false u e = clash false e refl

pub and_both : {t u : Bool} → t ≡ true → u ≡ true → (t && u) ≡ true
and_both p q = rw (p, q)

pub or_yes : (t u : Bool) → t || u ≡ true → (t ≡ true) ⊎ (u ≡ true)
or_yes true u e = inl refl
or_yes false u e = inr e

pub or_no : (t u : Bool) → t || u ≡ false → (t ≡ false) × (u ≡ false)
or_no true u e = clash true refl e
or_no false u e = (refl, e)

pub not_or : (t u : Bool) → not (t || u) ≡ not t && not u
not_or true u = refl
not_or false u = refl

pub and_swap : (a b c d : Bool) → (a && b) && (c && d) ≡ (a && c) && (b && d)
and_swap true b true d = refl
and_swap true b false d = and-false b
and_swap false b c d = refl

pub or_swap : (a b c d : Bool) → (a || b) || (c || d) ≡ (a || c) || (b || d)
or_swap true b c d = refl
or_swap false true true d = refl
or_swap false true false d = refl
or_swap false false c d = refl

pub and_ahead : (a b c : Bool) → a && (b && c) ≡ b && (a && c)
and_ahead a true c = refl
and_ahead a false c = and-false a

-- ---- a choice

pub if_ind {κ} : {A : Type 0} (P : A → Type κ) (t : Bool) {x y : A} → (t ≡ true → P x) → (t ≡ false → P y) → P (if t then x else y)
if_ind P true f g = f refl
if_ind P false f g = g refl

-- a choice that is not its first way is its second
pub if_second : {A : Type 0} (t : Bool) {x y z : A} → (x ≡ z → ⊥) → (if t then x else y) ≡ z → (y ≡ z) × (t ≡ false)
if_second true n e = absurd (n e)
if_second false n e = (e, refl)

-- and where the test is of the second way, what is chosen fails it
pub if_left : {A : Type 0} (p : A → Bool) {x y z : A} → (x ≡ z → ⊥) → (if p y then x else y) ≡ z → (y ≡ z) × (p z ≡ false)
if_left p {y} n e = let f = if_second (p y) n e in (f.0, sym (ap p f.0) ∙ f.1)

pub if_same : {A : Type 0} (t : Bool) (x : A) → (if t then x else x) ≡ x
if_same true x = refl
if_same false x = refl

-- a test that both ways end with
pub if_both : (t a b z : Bool) → (if t then a && z else b && z) ≡ (if t then a else b) && z
if_both true a b z = refl
if_both false a b z = refl

pub if_and : {A : Type 0} (t u : Bool) (x y : A) → (if t && u then x else y) ≡ (if t then (if u then x else y) else y)
if_and true u x y = refl
if_and false u x y = refl

pub if_and_not : {A : Type 0} (t u : Bool) (x y : A) → (if t && not u then x else y) ≡ (if t then (if u then y else x) else y)
if_and_not true true x y = refl
if_and_not true false x y = refl
if_and_not false u x y = refl
