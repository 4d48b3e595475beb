-- A row in the bytes: no row has the session 0, which tells a free row, so a test of the bytes is a test of the row that they hold, and a
-- search of the bytes is a search of the table.
use Rattle.std.specs.Prelude.{if◌then◌else◌, Some, None}
use mathlib.Core.Path.{◌≡◌, refl}
use mathlib.Core.Bool.{Bool, true, false, ◌&&◌}
use mathlib.Core.List.{List}
use Prim.Native.Nat.{ℕ}
use native.Mathlib.Omega.{arith}
use lib.Dec.{eqb}
use borrow.Author.Tests.{ne_eqb}
use Rattle.lent.specs.Tables.{first}
use Rattle.machine.specs.Sizes.{row_count, rows_from, row_width}
use Rattle.machine.specs.Tables.{place}
use Rattle.machine.specs.State.{Row, no_row, row, State, free_row, on, of_on, row_at, row_place}
use Rattle.layout.specs.Fields.{row_session, row_key}
use Rattle.layout.specs.Holds.{RowFits, Holds}
use Rattle.layout.specs.Search.{found, starts_with}
use Rattle.layout.proofs.Held.{owner_held, target_held, row_stands}
use Rattle.layout.proofs.Search.{first_held, found_none}
use Rattle.lookups.specs.Test.{test_of, row_test}

-- ---- tests

owner_free : (r : Row) → RowFits r → eqb (row_session r) 0 ≡ free_row r
owner_free no_row f = refl
owner_free (row n k d u) f = ne_eqb n 0 (λ q. omega (arith, q, f.given))

-- of session n, which is not 0
of-on : (n k : ℕ) (r : Row) → RowFits r → (n ≡ 0 → ⊥) → test_of n k (row_session r) (row_key r) ≡ of_on n k r
of-on n k no_row f z = refl
of-on n k (row m j d u) f z = rw (ne_eqb m 0 (λ q. omega (arith, q, f.given)), ne_eqb n 0 z) (go (eqb m n))
  where
    go : (t : Bool) → (if t then eqb j k else false) ≡ t && eqb j k
    go true = refl
    go false = refl

-- of any
any-on : (k : ℕ) (r : Row) → RowFits r → test_of 0 k (row_session r) (row_key r) ≡ on k r
any-on k no_row f = refl
any-on k (row m j d u) f = rw (ne_eqb m 0 (λ q. omega (arith, q, f.given)))

none_of : (k : ℕ) (r : Row) → RowFits r → of_on 0 k r ≡ false
none_of k no_row f = refl
none_of k (row m j d u) f = rw (ne_eqb m 0 (λ q. omega (arith, q, f.given)))

-- ---- searches

module _ {b : List ℕ} {s : State} (h : Holds b s) where
  -- by a test that the row's session and key decide
  test_search : (p : Row → Bool) (n k : ℕ) → ((r : Row) → RowFits r → test_of n k (row_session r) (row_key r) ≡ p r)
      → first (row_test b n k) Some None 0 row_count ≡ found row_count (place p s.rows)
  unfolding row_test
  test_search p n k q =
      first_held p no_row (row_test b n k) s.rows row_count h.fits.rows (λ i l.
      rw (owner_held h i l, target_held h i l) (q (row_at s i) (row_stands h i l).fits))

  pub of_search : (n k : ℕ) → (n ≡ 0 → ⊥) → first (row_test b n k) Some None 0 row_count ≡ found row_count (row_place s n k)
  of_search n k z = test_search (of_on n k) n k (λ r f. of-on n k r f z)

  pub on_search : (k : ℕ) → first (row_test b 0 k) Some None 0 row_count ≡ found row_count (place (on k) s.rows)
  on_search k = test_search (on k) 0 k (any-on k)

  pub free_search : first (starts_with b rows_from row_width 0) Some None 0 row_count ≡ found row_count (place free_row s.rows)
  free_search =
      first_held free_row no_row (starts_with b rows_from row_width 0) s.rows row_count h.fits.rows (λ i l.
      rw (owner_held h i l) (owner_free (row_at s i) (row_stands h i l).fits))

  pub none-zero : (k : ℕ) → found row_count (row_place s 0 k) ≡ None
  none-zero k = found_none (of_on 0 k) no_row s.rows row_count h.fits.rows (λ i l. none_of k (row_at s i) (row_stands h i l).fits)
