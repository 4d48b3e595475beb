-- What a session holds on a key, told by what the search of the rows found: a row of its own has its kind, and where there is none it holds
-- nothing.
use Rattle.std.specs.Prelude.{Some, None}
use mathlib.Core.Path.{◌≡◌}
use mathlib.Core.Bool.{false}
use Prim.Native.Nat.{ℕ, ◌≤◌}
use native.Mathlib.Omega.{arith}
use lib.Dec.{eqb}
use lib.ListN.{length}
use borrow.Author.Tests.{ne_eqb}
use Rattle.machine.specs.Sizes.{row_count}
use Rattle.machine.specs.State.{no_row, State, of_on, kind_of, row_place, row_of, row_at}
use Rattle.layout.specs.Search.{found}
use Rattle.layout.proofs.Search.{found_entry, nothing_entry}

module _ (s : State) (l : length s.rows ≡ row_count) (n k kind : ℕ) where
  pub holds-none : 1 ≤ kind → found row_count (row_place s n k) ≡ None → eqb (kind_of (row_of s n k)) kind ≡ false
  holds-none h f = rw (nothing_entry (of_on n k) no_row s.rows row_count l f) (ne_eqb 0 kind (λ e. omega arith))

  pub holds_row : (i d : ℕ) → found row_count (row_place s n k) ≡ Some i → d ≡ kind_of (row_at s i) → eqb d kind ≡ eqb (kind_of (row_of s n k)) kind
  holds_row i d f e = rw (found_entry (of_on n k) no_row s.rows row_count i f, e)
