-- Where nothing lapses expiry changes nothing.
use mathlib.Core.Path.{sym, ◌∙◌}
use Rattle.sweep.proofs.Lapsing.{nothing_lapses}
use Rattle.cache.proofs.Taken.{step-by-acted}
use Rattle.cache.proofs.settle.Goals as goal

pub returns : goal.returns
returns c = λ σ h ok. step-by-acted σ _ _ _ (nothing_lapses _ σ (sym (c.lapses.ensures σ h) ∙ c.if-lapses.false)) (c.still.ensures σ h ok)
