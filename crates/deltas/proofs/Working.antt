-- What DELTA stages, by what the bytes say of its row and of its key: the row's mark tells DROP, a staged value or nothing, and where it is
-- nothing the key's mark tells whether a value is cached. A value stands where its record says, so the operation on those bytes is on it.
use mathlib.Core.Path.{◌≡◌, refl}
use mathlib.Core.Bool.{true, false, not}
use mathlib.Core.List.{List}
use mathlib.Core.Option.{Option, none, some}
use Prim.Native.Nat.{ℕ, ◌<◌}
use native.Mathlib.Omega.{arith}
use lib.ListN.{length}
use Rattle.lent.specs.Bytes.{win}
use Rattle.machine.specs.Sizes.{key_count, row_count, value_at, staged_at}
use Rattle.machine.specs.Tables.{is_none}
use Rattle.machine.specs.State.{Value, Staged, nothing, staged, DROP, State, staged_in, row_at, cached}
use Rattle.machine.specs.Effects.{operate, or_drop, changed}
use Rattle.layout.specs.Fields.{VALUED, DROPPED, value_length, staged_mark, staged_length}
use Rattle.layout.specs.Holds.{Holds}
use Rattle.layout.proofs.Held.{value_stands, staged_stands}
use Rattle.lent.proofs.Choices.{clash}
use Rattle.deltas.specs.Changes.{changed_in}

module _ (operation : ℕ) (x : Value) where
  -- DROP is staged
  pub changed-drop : (u : Staged) (c : Option Value) → staged_mark u ≡ DROPPED → DROP ≡ changed operation x u c
  unfolding changed
  changed-drop nothing c e = absurd (omega arith)
  changed-drop (staged v) c e = absurd (omega arith)
  changed-drop DROP c e = refl

  -- a value is staged, which stands where y does
  changed_staged : (u : Staged) (c : Option Value) (y : ℕ → Value) (n : ℕ) (o : Option Value) → staged_mark u ≡ VALUED → n ≡ staged_length u
      → ((v : Value) → u ≡ staged v → y (length v) ≡ v) → o ≡ operate operation x (y n) → or_drop o ≡ changed operation x u c
  unfolding changed
  changed_staged nothing c y n o e m f q = absurd (omega arith)
  changed_staged (staged v) c y n o e m f q = rw (q, m, f v refl)
  changed_staged DROP c y n o e m f q = absurd (omega arith)

  -- nothing is staged, and no value is cached
  pub changed-absent : (u : Staged) (c : Option Value) → (staged_mark u ≡ DROPPED → ⊥) → (staged_mark u ≡ VALUED → ⊥) → not (is_none c) ≡ false → DROP ≡ changed operation x u c
  unfolding changed
  changed-absent nothing none a b e = refl
  changed-absent nothing (some v) a b e = clash true refl e
  changed-absent (staged v) c a b e = absurd (b refl)
  changed-absent DROP c a b e = absurd (a refl)

  -- nothing is staged, and a value is cached
  changed-cached : (u : Staged) (c : Option Value) (y : ℕ → Value) (n : ℕ) (o : Option Value) → (staged_mark u ≡ DROPPED → ⊥) → (staged_mark u ≡ VALUED → ⊥) → not (is_none c) ≡ true → n ≡ value_length c
      → ((v : Value) → c ≡ some v → y (length v) ≡ v) → o ≡ operate operation x (y n) → or_drop o ≡ changed operation x u c
  unfolding changed
  changed-cached nothing none y n o a b e m f q = clash false e refl
  changed-cached nothing (some v) y n o a b e m f q = rw (q, m, f v refl)
  changed-cached (staged v) c y n o a b e m f q = absurd (b refl)
  changed-cached DROP c y n o a b e m f q = absurd (a refl)

module _ {b : List ℕ} {s : State} (h : Holds b s) (i k operation : ℕ) (x : Value) where
  pub works_staged : i < row_count → {n : ℕ} {o : Option Value} → staged_mark (staged_in (row_at s i)) ≡ VALUED → n ≡ staged_length (staged_in (row_at s i))
      → o ≡ operate operation x (win b (staged_at i) n) → or_drop o ≡ changed_in s i k operation x
  works_staged l {n} {o} e m q =
      changed_staged operation x (staged_in (row_at s i)) (cached s k) (win b (staged_at i)) n o e m (staged_stands h i l) q

  pub works_cached : (staged_mark (staged_in (row_at s i)) ≡ DROPPED → ⊥) → (staged_mark (staged_in (row_at s i)) ≡ VALUED → ⊥)
      → k < key_count → {n : ℕ} {o : Option Value} → not (is_none (cached s k)) ≡ true → n ≡ value_length (cached s k)
      → o ≡ operate operation x (win b (value_at k) n) → or_drop o ≡ changed_in s i k operation x
  works_cached p r l {n} {o} e m q =
      changed-cached operation x (staged_in (row_at s i)) (cached s k) (win b (value_at k)) n o p r e m (value_stands h k l) q
