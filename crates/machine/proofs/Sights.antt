-- What is in sight on a key is its cached value, where the key's record has it, or a value that is staged in a row, where the row's has it.
use mathlib.Core.Path.{◌≡◌, refl, subst}
use mathlib.Core.Option.{Option, none, some}
use Prim.Native.Nat.{ℕ}
use lib.Dec.{eqb}
use Rattle.lent.proofs.Choices.{if_second}
use Rattle.machine.specs.Sizes.{value_at, staged_at}
use Rattle.machine.specs.Words.{INVALIDATE}
use Rattle.machine.specs.State.{Value, nothing, staged, DROP, Row, no_row, row, State, row_place, row_of, row_at, cached}
use Rattle.machine.specs.Refusals.{Sight, cached_sight, row_sight, sight}
use Rattle.machine.proofs.Views.{no_some, some_eq}

module _ (P : Sight → Type 0) (s : State) (k : ℕ) (in-key : (v : Value) → cached s k ≡ some v → P (record { at = value_at k; value = v }))
    (in_row : (i n j d : ℕ) (v : Value) → row_at s i ≡ row n j d (staged v) → P (record { at = staged_at i; value = v })) where
  cached_ind : (o : Option Value) → cached s k ≡ o → (x : Sight) → cached_sight k o ≡ some x → P x
  cached_ind none q x e = no_some x e
  cached_ind (some v) q x e = subst P (some_eq (record { at = value_at k; value = v }) x e) (in-key v q)

  row_ind : (i : ℕ) (r : Row) → row_at s i ≡ r → (x : Sight) → row_sight i k r (cached s k) ≡ some x → P x
  row_ind i no_row q x e = cached_ind (cached s k) refl x e
  row_ind i (row n j d nothing) q x e = cached_ind (cached s k) refl x (if_second (eqb d INVALIDATE) (no_some x) e).0
  row_ind i (row n j d (staged v)) q x e = subst P (some_eq (record { at = staged_at i; value = v }) x e) (in_row i n j d v q)
  row_ind i (row n j d DROP) q x e = no_some x e

  pub sight_ind : (n : ℕ) (x : Sight) → sight s n k ≡ some x → P x
  unfolding sight
  sight_ind n x e = row_ind (row_place s n k) (row_of s n k) refl x e
