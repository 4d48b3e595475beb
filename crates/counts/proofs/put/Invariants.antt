use Rattle.std.proofs.Common.{◌≡◌, ◌≤◌, length}
use Rattle.lent.specs.Bytes.{splice}
use Rattle.counts.specs.Count.{written}
use Rattle.counts.proofs.Decimal.{low_digits}
use Rattle.counts.proofs.put.Given as goal

abbrev pub invariant-loop-i : goal.invariant-loop-i
invariant-loop-i l = (l.i ≤ l.w) × ((length l.out ≡ length l.initial.out) × ((written l.n l.initial.out).bytes ≡ splice l.out 0 (low_digits l.i l.left)))
