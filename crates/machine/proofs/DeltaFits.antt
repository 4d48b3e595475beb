-- What DELTA stages fits an incremental row: an appended or prepended value was measured, a count has at most 20 digits, and where there is
-- no result DROP is staged.
use Rattle.std.specs.Prelude.{if◌then◌else◌, Some, None, Option as ProgramOption}
use mathlib.Core.Path.{refl, subst}
use mathlib.Core.List.{[], ◌∷◌, ◌++◌}
use mathlib.Core.Option.{Option, none, some}
use Prim.Native.Nat.{ℕ, zero, suc}
use native.Mathlib.Omega.{arith}
use lib.Dec.{eqb, leb}
use lib.ListN.{length}
use borrow.Author.Tests.{leb-true}
use Rattle.lent.specs.Bytes.{Bytes}
use Rattle.lent.proofs.Choices.{if_ind}
use Rattle.counts.specs.Count.{decimal, read_count, raised, lowered}
use Rattle.counts.proofs.Decimal.{decimal_most, decimal-digits, digits-byte}
use Rattle.machine.specs.Sizes.{value_max}
use Rattle.machine.specs.State.{Value, Staged, nothing, staged, DROP}
use Rattle.machine.specs.Effects.{fits, counts, operate, or_drop, changed}
use Rattle.machine.specs.WellFormed.{Fine, StagedFits}
use Rattle.machine.specs.Words.{INCREMENTAL, APPEND, PREPEND, INCREMENT}
use Rattle.machine.proofs.Views
use Rattle.machine.proofs.SoundMeans.{FineIfAny}

bytes_append : (v x : Value) → Bytes v → Bytes x → Bytes (v ++ x)
bytes_append [] x p q i = q i
bytes_append (b ∷ v) x p q zero = p zero
bytes_append (b ∷ v) x p q (suc i) = bytes_append v x (λ j. p (suc j)) q i

decimal_fine : (n : ℕ) → Fine (decimal n)
decimal_fine n = record { short = omega (arith, decimal_most n); bytes = λ i. digits-byte (decimal n) i (decimal-digits n) }

fits_fine : (v : Value) → Bytes v → FineIfAny (fits v)
fits_fine v p = if_ind FineIfAny (leb (length v) value_max)
    (λ q u e. subst Fine (Views.some_eq v u e) (record { short = leb-true (length v) value_max q; bytes = p })) (λ q u e. Views.no_some u e)

counts_fine : (operation : ℕ) (a b : ProgramOption ℕ) → FineIfAny (counts operation a b)
counts_fine operation None b v e = Views.no_some v e
counts_fine operation (Some a) None v e = Views.no_some v e
counts_fine operation (Some a) (Some b) v e = subst Fine (Views.some_eq _ v e) (decimal_fine (if eqb operation INCREMENT then raised a b else lowered a b))

operate_fine : (operation : ℕ) (x v : Value) → Bytes x → Fine v → FineIfAny (operate operation x v)
unfolding operate
operate_fine operation x v px fv = if_ind FineIfAny (eqb operation APPEND) (λ a. fits_fine (v ++ x) (bytes_append v x fv.bytes px)) (λ a.
    if_ind FineIfAny (eqb operation PREPEND) (λ b. fits_fine (x ++ v) (bytes_append x v px fv.bytes)) (λ b.
    counts_fine operation (read_count v) (read_count x)))

or_drop-fits : (o : Option Value) → FineIfAny o → StagedFits INCREMENTAL (or_drop o)
or_drop-fits none f = refl
or_drop-fits (some v) f = (omega arith, f v refl)

pub changed-fits : (operation : ℕ) (x : Value) (u : Staged) (o : Option Value) → Bytes x → StagedFits INCREMENTAL u → FineIfAny o → StagedFits INCREMENTAL (changed operation x u o)
unfolding changed
changed-fits operation x nothing none px fu fo = refl
changed-fits operation x nothing (some v) px fu fo = or_drop-fits (operate operation x v) (operate_fine operation x v px (fo v refl))
changed-fits operation x (staged v) o px fu fo = or_drop-fits (operate operation x v) (operate_fine operation x v px fu.1)
changed-fits operation x DROP o px fu fo = refl
