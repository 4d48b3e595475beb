-- A table is looked through for an entry that passes a test. `any-hit` asks for a place within the list, not for a default that fails (as `any_at`
-- does), since a list of numbers has the default 0, which may pass.
use Prim.Native.Nat.{ℕ, zero, suc, ◌+◌, ◌<◌}
use mathlib.Core.Bool.{Bool, true, false, or-true}
use mathlib.Core.Path.{◌≡◌, refl, ap, ◌∙◌}
use mathlib.Core.List.{List, [], ◌∷◌}
use native.Mathlib.Omega.{arith}
use native.Mathlib.Nat.{le_of_suc-le-suc, not-suc-le-zero, add-zero}
use lib.ListN.{length, get_or}
use denote.Param.Members.{Mut}
use Rattle.std.specs.Fn.{Called}
use Rattle.std.specs.Iterator.{ChecksAny}
use Rattle.std.specs.List.{range_with_len, list_any}
use Rattle.std.specs.declared.ops.Range.{Range}
use Rattle.std.proofs.iter.Yields.{nat_range_steps}
use Rattle.std.proofs.lemmas.Iterator.{YieldsList-from_range}
use Rattle.std.proofs.lemmas.Iterator.Search.{any_from_yields_List}
use Rattle.machine.specs.Tables.{any}

module _ {A : Type 0} (p : A → Bool) (d : A) where
  pub any-hit : (l : List A) (i : ℕ) → i < length l → p (get_or l i d) ≡ true → any p l ≡ true
  any-hit [] i h e = absurd (not-suc-le-zero h)
  any-hit (x ∷ l) zero h e = rw e
  any-hit (x ∷ l) (suc i) h e = rw (any-hit l i (le_of_suc-le-suc h) e) (or-true (p x))

  -- no entry of the list before place i passes
  abbrev pub NoneBelow : List A → ℕ → Type 0
  NoneBelow l i = (j : ℕ) → j < i → p (get_or l j d) ≡ false

  -- a test of the numbers from a, which says of each what p says of the entry in its place
  any-from : (q : ℕ → Bool) (a : ℕ) (l : List A) → ((i : ℕ) → q (a + i) ≡ p (get_or l i d)) → list_any q (range_with_len a (length l)) ≡ any p l
  any-from q a [] e = refl
  any-from q a (x ∷ l) e = rw (any-from q (a + 1) l (λ i. rw (← e (suc i)) (ap q (omega arith))), ← e 0, add-zero)

  -- `any` over the n places of a table, where the closure says of each whether its entry passes
  pub any_told : {F : Type 0} {g : Mut F (ℕ × Unit {0}) Bool} (l : List A) {n : ℕ} {u : Range ℕ} {f : F} {r : Bool} → length l ≡ n → ChecksAny nat_range_steps g (record { start = 0; end = n }) f r u
      → ((x : ℕ) (b : Bool) (q : F) → Called g f (x, tt) b q → (q ≡ f) × (b ≡ p (get_or l x d))) → r ≡ any p l
  any_told l {n = n} {f = f} w ran e =
      any_from_yields_List (λ x. p (get_or l x d)) _ f _ ran (YieldsList-from_range 0 n _ refl (omega (arith, w))) e ∙ any-from (λ x. p (get_or l x d)) 0 l (λ i. ap (λ j. p (get_or l j d)) (omega arith))
