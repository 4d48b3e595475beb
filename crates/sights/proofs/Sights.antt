-- What is seen on a key, by the marks in the bytes: a row's mark and kind decide between its staged value, nothing and the cached value, and
-- a lookup decides between a row of one's own and none.
use Rattle.std.specs.Prelude.{if◌then◌else◌, Option as Found, Some, None}
use mathlib.Core.Path.{◌≡◌, refl}
use mathlib.Core.Bool.{Bool, true, false}
use mathlib.Core.Option.{Option, none, some}
use Prim.Native.Nat.{ℕ}
use native.Mathlib.Omega.{arith}
use lib.Dec.{eqb}
use lib.ListN.{length}
use Rattle.lent.proofs.Choices.{clash}
use Rattle.machine.specs.Sizes.{row_count, value_at, staged_at}
use Rattle.machine.specs.Tables.{is_none}
use Rattle.machine.specs.State.{Value, nothing, staged, DROP, Row, no_row, row, State, free_row, of_on, kind_of, staged_in, row_at, row_of, row_place, cached}
use Rattle.machine.specs.Refusals.{Sight as Seen, cached_sight, row_sight, sight}
use Rattle.machine.specs.Words.{INVALIDATE}
use Rattle.machine.proofs.Views.{of-on-taken}
use Rattle.layout.specs.Fields.{VALUED, DROPPED, value_length, staged_mark, staged_length}
use Rattle.layout.specs.Search.{found}
use Rattle.layout.proofs.Search.{found-at, found_entry, found_passes, nothing_entry}
use Rattle.sights.specs.Sights.{placed}

-- ---- the cached value

module _ (k : ℕ) where
  pub cached-absent : (o : Option Value) → is_none o ≡ true → cached_sight k o ≡ none
  cached-absent none e = refl
  cached-absent (some v) e = clash false e refl

  pub cached_there : (o : Option Value) → is_none o ≡ false → placed (cached_sight k o) ≡ Some (record { at = value_at k; length = value_length o })
  cached_there none e = clash true refl e
  cached_there (some v) e = refl

-- ---- one's own row

module _ (i k : ℕ) (c : Option Value) where
  pub row_staged : (r : Row) → staged_mark (staged_in r) ≡ VALUED → placed (row_sight i k r c) ≡ Some (record { at = staged_at i; length = staged_length (staged_in r) })
  row_staged no_row e = absurd (omega arith)
  row_staged (row n j d nothing) e = absurd (omega arith)
  row_staged (row n j d (staged v)) e = refl
  row_staged (row n j d DROP) e = absurd (omega arith)

  pub row_dropped : (r : Row) → staged_mark (staged_in r) ≡ DROPPED → row_sight i k r c ≡ none
  row_dropped no_row e = absurd (omega arith)
  row_dropped (row n j d nothing) e = absurd (omega arith)
  row_dropped (row n j d (staged v)) e = absurd (omega arith)
  row_dropped (row n j d DROP) e = refl

  -- nothing is staged: by its kind
  pub row_unstaged : (r : Row) → (staged_mark (staged_in r) ≡ VALUED → ⊥) → (staged_mark (staged_in r) ≡ DROPPED → ⊥) → {t : Bool} → eqb (kind_of r) INVALIDATE ≡ t
      → row_sight i k r c ≡ (if t then none else cached_sight k c)
  row_unstaged no_row p q e = rw (← e)
  row_unstaged (row n j d nothing) p q e = rw (← e)
  row_unstaged (row n j d (staged v)) p q e = absurd (p refl)
  row_unstaged (row n j d DROP) p q e = absurd (q refl)

-- ---- a lookup

abbrev pub sight_by : State → ℕ → Found ℕ → Option Seen
sight_by s k (Some i) = row_sight i k (row_at s i) (cached s k)
sight_by s k None = cached_sight k (cached s k)

module _ (s : State) (n k : ℕ) where
  pub row_taken : (i : ℕ) → length s.rows ≡ row_count → found row_count (row_place s n k) ≡ Some i → free_row (row_of s n k) ≡ false
  row_taken i l f =
      rw (found_entry (of_on n k) no_row s.rows row_count i f)
      (of-on-taken n k (row_at s i) (found_passes (of_on n k) no_row s.rows row_count i l f))

  pub row_missing : length s.rows ≡ row_count → found row_count (row_place s n k) ≡ None → row_of s n k ≡ no_row
  row_missing l e = nothing_entry (of_on n k) no_row s.rows row_count l e

  -- by what the search for the row told
  pub sight-by : length s.rows ≡ row_count → {r : Found ℕ} → found row_count (row_place s n k) ≡ r → sight s n k ≡ sight_by s k r
  unfolding sight
  sight-by l e = go _ e
    where
      go : (r : Found ℕ) → found row_count (row_place s n k) ≡ r → row_sight (row_place s n k) k (row_of s n k) (cached s k) ≡ sight_by s k r
      go (Some i) e = rw (found-at row_count (row_place s n k) i e).0
      go None e = rw (row_missing l e)
