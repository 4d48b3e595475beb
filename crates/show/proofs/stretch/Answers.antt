-- The check refuses with the empty part at the first byte, or the bytes hold a state and its stretch is given.
use mathlib.Core.Path.{refl}
use native.Mathlib.Nat.{zero-add}
use Rattle.lent.specs.Bytes.{win}
use Rattle.lent.proofs.Choices.{test_failed, test_passed}
use Rattle.layout.proofs.Formed.{formed, holds_decoded}
use Rattle.show.proofs.Formed.{unformed_shows, formed_shows}
use Rattle.show.proofs.stretch.Goals as goal

pub returns-then-not-well_formed : goal.returns-then-not-well_formed
unfolding win
returns-then-not-well_formed c = rw (unformed_shows _ (test_failed c.well_formed-2.ensures c.if-not-well_formed.true)) (record { place = rw zero-add; bytes = refl; value = refl })

pub stretch-requires : goal.stretch-requires
stretch-requires c = (formed c.args.s.now (test_passed c.well_formed-2.ensures c.if-not-well_formed.false)).size

pub returns : goal.returns
returns c =
    let e = test_passed c.well_formed-2.ensures c.if-not-well_formed.false in
    rw (formed_shows _ e) (c.stretch.ensures _ (holds_decoded _ e))
