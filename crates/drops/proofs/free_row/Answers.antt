-- A free row is all zero, so clearing the row writes one.
use native.Mathlib.Omega.{arith}
use Rattle.machine.specs.State.{no_row}
use Rattle.layout.specs.Layout.{enc_row}
use Rattle.layout.proofs.Held.{row_stands}
use Rattle.drops.proofs.free_row.Goals as goal

pub returns : goal.returns
unfolding enc_row
returns c = let clear = c.clear in
    let args = c.args in
    λ σ h. rw clear.ensures ((row_stands h args.i (omega arith)).store no_row tt)
