-- After k turns the bytes hold the state after k steps of `lapse_key`; all of them are the map over the keys (`passed`).
use mathlib.Core.Path.{refl}
use native.Mathlib.Omega.{arith}
use borrow.Author.Rules.{rules}
use Rattle.machine.specs.State.{blank}
use Rattle.machine.specs.Expiry.{with_keys, lapsed_lease}
use Rattle.layout.proofs.Walked.{walked_none, walked_more, walked_all}
use Rattle.sweep.specs.Lapsing.{lapse_key}
use Rattle.sweep.proofs.Ended.{passed}
use Rattle.sweep.proofs.lapse_leases.Goals as goal

pub loop-k-init : goal.loop-k-init
loop-k-init c = (search rules, search rules, walked_none)

pub loop-k-preserved : goal.loop-k-preserved
loop-k-preserved c = (search rules, search rules, walked_more c.loop-k.invariant.2 c.lapse_key.ensures)

pub returns : goal.returns
unfolding lapse_key
returns c = λ σ h. walked_all c.loop-k.invariant.2 (omega arith) h (passed (lapsed_lease _) blank (with_keys σ) (lapse_key _) (λ k l. refl) σ.keys _ h.fits.keys)
