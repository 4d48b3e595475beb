-- The loop over the rows is a pass that hands the keys along. The rows and keys after the last are those of `end_rows`, which
-- settles the keys along the rows in the same order.
use mathlib.Core.Path.{◌≡◌, refl, sym, ◌∙◌}
use mathlib.Core.List.{List, [], ◌∷◌}
use Prim.Native.Nat.{ℕ}
use lib.ListN.{length}
use Rattle.lent.proofs.Walks.{iter}
use Rattle.lent.proofs.Choices.{if_same}
use Rattle.machine.specs.Sizes.{row_count}
use Rattle.machine.specs.Tables.{mem}
use Rattle.machine.specs.State.{Key, Row, no_row, row, State}
use Rattle.machine.specs.Expiry.{with_keys, with_rows, free_if_of}
use Rattle.endings.specs.Ends.{keys_settled, row_settles, end_row, end_rows}
use Rattle.endings.specs.declared.Ending.{Ending}
use Rattle.endings.proofs.Passes.{along, pass_whole}

module _ (e : Ending) (ns : List ℕ) where
  -- one row more in front
  settled-cons : (r : Row) (rs : List Row) (ks : List Key) → keys_settled e ns rs (row_settles e ns r ks) ≡ keys_settled e ns (r ∷ rs) ks
  settled-cons r rs ks = go e r
    where
      go : (e : Ending) (r : Row) → keys_settled e ns rs (row_settles e ns r ks) ≡ keys_settled e ns (r ∷ rs) ks
      go Ending.Leaves no_row = refl
      go Ending.Leaves (row n k d u) = if_same (mem n ns) ks
      go Ending.Lapses no_row = refl
      go Ending.Lapses (row n k d u) = refl
      go Ending.Caches no_row = refl
      go Ending.Caches (row n k d u) = refl

  settled-none : (ks : List Key) → keys_settled e ns [] ks ≡ ks
  settled-none ks = go e
    where
      go : (e : Ending) → keys_settled e ns [] ks ≡ ks
      go Ending.Leaves = refl
      go Ending.Lapses = refl
      go Ending.Caches = refl

  -- the keys handed along the rows
  along-settled : (rs : List Row) (ks : List Key) → along (row_settles e ns) rs ks ≡ keys_settled e ns rs ks
  along-settled [] ks = sym (settled-none ks)
  along-settled (r ∷ rs) ks = along-settled rs (row_settles e ns r ks) ∙ settled-cons r rs ks

  pub rows_ended : (s : State) → length s.rows ≡ row_count → iter (end_row e ns) row_count s ≡ end_rows e ns s
  unfolding end_row end_rows
  rows_ended s h =
      pass_whole (free_if_of ns) (row_settles e ns) no_row (λ rs ks. with_rows (with_keys s ks) rs) (end_row e ns) (λ i rs ks. refl) s.rows s.keys row_count h
      ∙ rw (along-settled s.rows s.keys)
