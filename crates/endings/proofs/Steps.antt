-- One row of the pass over the rows: a free one and one of another session stay as they are, and one of the sessions settles its key and is freed.
use mathlib.Core.Path.{◌≡◌, refl}
use mathlib.Core.Bool.{true, false}
use mathlib.Core.List.{List}
use Prim.Native.Nat.{ℕ}
use lib.ListN.{set}
use lib.Seq.{set-get_or}
use Rattle.machine.specs.Tables.{mem}
use Rattle.machine.specs.State.{Row, no_row, row, State, row_at, staged_in}
use Rattle.machine.specs.Expiry.{with_keys, with_rows, free_if_of}
use Rattle.layout.specs.Fields.{row_session, row_key}
use Rattle.layout.specs.Holds.{RowFits}
use Rattle.layout.proofs.Records.{row_none}
use Rattle.endings.specs.Ends.{settles, row_settles, end_row}
use Rattle.endings.specs.declared.Ending.{Ending}

module _ (e : Ending) (ns : List ℕ) (i : ℕ) (s : State) where
  -- one that stays as it is, keys and all
  row_same : row_settles e ns (row_at s i) s.keys ≡ s.keys → free_if_of ns (row_at s i) ≡ row_at s i → end_row e ns i s ≡ s
  unfolding end_row
  row_same p q = rw (p, q, set-get_or s.rows i no_row)

  pub row_free : RowFits (row_at s i) → row_session (row_at s i) ≡ 0 → end_row e ns i s ≡ s
  row_free f z = let q = row_none (row_at s i) f z in row_same (rw q) (rw q)

  pub row_stays : mem (row_session (row_at s i)) ns ≡ false → end_row e ns i s ≡ s
  row_stays m = go (row_at s i) refl m
    where
      go : (r : Row) → row_at s i ≡ r → mem (row_session r) ns ≡ false → end_row e ns i s ≡ s
      go no_row q m = row_same (rw q) (rw q)
      go (row n k d u) q m = row_same (rw (q, m)) (rw (q, m))

  pub row_ends : (row_session (row_at s i) ≡ 0 → ⊥) → mem (row_session (row_at s i)) ns ≡ true
      → end_row e ns i s ≡ with_rows (with_keys s (settles e (row_key (row_at s i)) (staged_in (row_at s i)) s.keys)) (set s.rows i no_row)
  unfolding end_row
  row_ends z m = go (row_at s i) z m
    where
      go : (r : Row) → (row_session r ≡ 0 → ⊥) → mem (row_session r) ns ≡ true → with_rows (with_keys s (row_settles e ns r s.keys)) (set s.rows i (free_if_of ns r)) ≡ with_rows (with_keys s (settles e (row_key r) (staged_in r) s.keys)) (set s.rows i no_row)
      go no_row z m = absurd (z refl)
      go (row n k d u) z m = rw m
