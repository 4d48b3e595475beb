-- What DELTA makes of a value: two values copied one behind the other are the longer value, if they fit, and a count that is written stands
-- at the front of its buffer. Where there is no result nothing is said of the buffer.
use Rattle.std.specs.Prelude.{if◌then◌else◌, Some, None, Option as ProgramOption}
use mathlib.Core.Path.{◌≡◌, refl, sym, ap}
use mathlib.Core.List.{List, ◌++◌}
use mathlib.Core.Option.{Option, none, some}
use Prim.Native.Nat.{ℕ, ◌+◌, ◌≤◌, ◌<◌}
use native.Mathlib.Nat.{zero-add}
use native.Mathlib.Omega.{arith}
use lib.Dec.{eqb}
use lib.ListN.{length, length-append}
use lib.Seq.{take-append_seam}
use borrow.Author.Tests.{ne_eqb, le-leb, lt-leb}
use Rattle.lent.specs.Bytes.{splice}
use Rattle.lent.proofs.Splice.{splice-next}
use Rattle.counts.specs.Count.{read_count, written, raised, lowered}
use Rattle.counts.proofs.Decimal.{decimal_most}
use Rattle.counts.proofs.Laws.{written_room, written_front}
use Rattle.machine.specs.Sizes.{value_max}
use Rattle.machine.specs.State.{Value}
use Rattle.machine.specs.Effects.{fits, counts, operate}
use Rattle.machine.specs.Words.{APPEND, PREPEND, INCREMENT}
use Rattle.deltas.specs.Changes.{Makes}

-- ---- no result

pub makes_drop : {o : Option Value} {b : List ℕ} → o ≡ none → Makes o None b
makes_drop e = record { value = sym e; short = tt }

-- ---- one value behind the other

module _ (a b : List ℕ) where
  pub joined-long : value_max < length a + length b → fits (a ++ b) ≡ none
  joined-long h = rw (lt-leb (length (a ++ b)) value_max (rw (length-append a b) h))

  both_copied : (s : List ℕ) → length a + length b ≤ length s → splice (splice s 0 a) (length a) b ≡ splice s 0 (a ++ b)
  both_copied s h = rw (zero-add (length a)) at (splice-next s a b 0 (length a) refl (omega arith))

  pub joined : (s : List ℕ) → length s ≡ value_max → length a + length b ≤ value_max → Makes (fits (a ++ b)) (Some (length a + length b)) (splice (splice s 0 a) (length a) b)
  unfolding splice
  joined s l h =
      let f : fits (a ++ b) ≡ some (a ++ b) = rw (le-leb (length (a ++ b)) value_max (rw (length-append a b) h)) in
      record { value = rw (both_copied s (omega arith), f, ← length-append a b, take-append_seam (a ++ b)); short = h }

-- ---- a count

module _ (operation : ℕ) (c d : ProgramOption ℕ) where
  pub counted_value : c ≡ None → counts operation c d ≡ none
  counted_value e = rw e

  pub counted_operand : (a : ℕ) → c ≡ Some a → d ≡ None → counts operation c d ≡ none
  counted_operand a e f = rw (e, f)

pub counted : (operation a b n w : ℕ) (c d : ProgramOption ℕ) (s t : List ℕ) → c ≡ Some a → d ≡ Some b → n ≡ (if eqb operation INCREMENT then raised a b else lowered a b)
    → length s ≡ value_max → w ≡ (written n s).number → t ≡ (written n s).bytes → Makes (counts operation c d) (Some w) t
counted operation a b n w c d s t e f g l p q =
    record {
      value = rw (e, f, p, q, ← g) (ap (λ (v : Value). some v) (written_front n s (omega arith)));
      short = rw (p, written_room n s (omega arith)) (omega (arith, decimal_most n));
    }

-- ---- the operation

module _ (x v : Value) where
  pub operate-append : operate APPEND x v ≡ fits (v ++ x)
  unfolding operate
  operate-append = refl

  pub operate_prepend : operate PREPEND x v ≡ fits (x ++ v)
  unfolding operate
  operate_prepend = refl

  pub operate-count : (operation : ℕ) → (operation ≡ APPEND → ⊥) → (operation ≡ PREPEND → ⊥) → operate operation x v ≡ counts operation (read_count v) (read_count x)
  unfolding operate
  operate-count operation p q = rw (ne_eqb operation APPEND p, ne_eqb operation PREPEND q)
