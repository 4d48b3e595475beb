use Prim.Native.Nat.{ℕ, ◌+◌, ◌-◌, ◌*◌, ◌≤◌}
use mathlib.Core.Path.{◌≡◌}
use mathlib.Core.Bool.{Bool, true}
use mathlib.Core.List.{List}
use Rattle.lent.specs.Bytes.{win}
use Rattle.lent.specs.Tables.{every}
use Rattle.machine.specs.Sizes.{row_count, rows_from, row_width}
use Rattle.joins.specs.Joins.{join_ok, Ready}
use Rattle.state.specs.Forms.{row_formed}
use Rattle.state.proofs.rows_fit.Given as goal

-- row i is formed
abbrev pub Formed : List ℕ → ℕ → Bool
Formed s i = row_formed (win s (rows_from + i * row_width) row_width)

abbrev pub invariant-loop-i : goal.invariant-loop-i
invariant-loop-i l = (l.i ≤ row_count) × ((every (Formed l.s) l.i ≡ true) × ((every (join_ok l.s) l.i ≡ true) × Ready l.s l.i l.seating.numbers l.words))

abbrev pub decreases-loop-i : goal.decreases-loop-i
decreases-loop-i l = row_count - l.i
