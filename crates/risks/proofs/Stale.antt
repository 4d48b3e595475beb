-- A row breaks rule 4 for n where it is n's, has a staged value, and that value is not the register's; each test is read from the row's fields.
use Prim.Native.Nat.{ℕ, ◌<◌}
use mathlib.Core.Path.{◌≡◌, refl, ap, ◌∙◌}
use mathlib.Core.Bool.{not}
use mathlib.Core.List.{List}
use native.Mathlib.Omega.{arith}
use borrow.Author.Tests.{eq-eqb}
use Rattle.lent.specs.Bytes.{win}
use Rattle.lent.specs.Tables.{same}
use Rattle.machine.specs.Sizes.{row_count, staged_at}
use Rattle.machine.specs.State.{Value, nothing, staged, DROP, Row, no_row, row, State, staged_in, row_at}
use Rattle.machine.specs.Test.{differs}
use Rattle.layout.specs.Fields.{row_session, row_key, VALUED, staged_mark, staged_length}
use Rattle.layout.specs.Holds.{Holds}
use Rattle.layout.proofs.Held.{staged_stands}

module _ (register : ℕ → Value) (n : ℕ) where
  differs_staged : (r : Row) (v : Value) → row_session r ≡ n → staged_mark (staged_in r) ≡ VALUED → ((u : Value) → staged_in r ≡ staged u → v ≡ u)
      → differs register n r ≡ not (same v (register (row_key r)))
  differs_staged no_row v e m f = absurd (omega arith)
  differs_staged (row j k d nothing) v e m f = absurd (omega arith)
  differs_staged (row j k d (staged u)) v e m f = rw (eq-eqb j n e, f u refl)
  differs_staged (row j k d DROP) v e m f = absurd (omega arith)

  -- the value that stands in the bytes of row i
  pub differs_row : {b : List ℕ} {s : State} → Holds b s → (i : ℕ) → i < row_count → (l k : ℕ) → row_session (row_at s i) ≡ n → staged_mark (staged_in (row_at s i)) ≡ VALUED
      → l ≡ staged_length (staged_in (row_at s i)) → k ≡ row_key (row_at s i) → differs register n (row_at s i) ≡ not (same (win b (staged_at i) l) (register k))
  differs_row {b} {s} h i g l k e m q p =
      differs_staged (row_at s i) (win b (staged_at i) l) e m (λ u f. ap (win b (staged_at i)) (q ∙ ap staged_length f) ∙ staged_stands h i g u f) ∙ rw p
