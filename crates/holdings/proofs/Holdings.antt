-- What is held on a key, told by what the search of the rows found: the first row on the key decides by its kind, else the I lease does.
use Rattle.std.specs.Prelude.{if◌then◌else◌, Some, None}
use mathlib.Core.Path.{◌≡◌, refl}
use mathlib.Core.Bool.{Bool, true}
use mathlib.Core.Option.{Option, none, some}
use Prim.Native.Nat.{ℕ, suc, ◌≤◌}
use native.Mathlib.Omega.{arith}
use lib.Dec.{eqb}
use lib.ListN.{length}
use borrow.Author.Tests.{ne_eqb}
use Rattle.machine.specs.Sizes.{row_count}
use Rattle.machine.specs.Tables.{place, is_none}
use Rattle.machine.specs.State.{Lease, no_row, State, on, kind_of, row_at, lease_on}
use Rattle.machine.specs.Sound.{sound, token_in}
use Rattle.machine.specs.Refusals.{held_on}
use Rattle.machine.specs.Words.{INVALIDATE, INCREMENTAL}
use Rattle.machine.proofs.Views.{on_row}
use Rattle.machine.proofs.SoundFacts.{row_kind_lem}
use Rattle.layout.specs.Holds.{LeaseFits}
use Rattle.layout.specs.Search.{found}
use Rattle.layout.proofs.Search.{found_entry, found_passes, nothing_entry}

module _ (s : State) (k : ℕ) where
  -- the first row on the key
  pub held_row : (i : ℕ) → length s.rows ≡ row_count → sound s ≡ true → found row_count (place (on k) s.rows) ≡ Some i
      → (held_on s k ≡ suc (kind_of (row_at s i))) × (INVALIDATE ≤ kind_of (row_at s i)) × (kind_of (row_at s i) ≤ INCREMENTAL)
  held_row i l e f =
      let r = on_row k (row_at s i) (found_passes (on k) no_row s.rows row_count i l f) in
      let d = row_kind_lem s e i r.3 in
      rw (found_entry (on k) no_row s.rows row_count i f, r.3) (refl, d.0, d.1)

  -- no row is on it: the lease's token, which is 0 where there is none
  pub held_leased : length s.rows ≡ row_count → found row_count (place (on k) s.rows) ≡ None → LeaseFits (lease_on s k)
      → {t : Bool} → eqb (token_in (lease_on s k)) 0 ≡ t → held_on s k ≡ (if t then 0 else 1)
  held_leased l f g e = rw (nothing_entry (on k) no_row s.rows row_count l f, ← e) (go (lease_on s k) g)
    where
      go : (o : Option Lease) → LeaseFits o → ◌≡◌ {A = ℕ} (if is_none o then 0 else 1) (if eqb (token_in o) 0 then 0 else 1)
      go none g = refl
      go (some x) g = rw (ne_eqb x.token 0 (λ q. omega arith))
