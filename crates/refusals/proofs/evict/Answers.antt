-- EVICT is refused for its key alone.
use Rattle.machine.proofs.FirstRefusal.{evict_key, evict_none}
use Rattle.refusals.proofs.Lefts.{meets}
use Rattle.refusals.proofs.evict.Goals as goal

pub returns-then-key : goal.returns-then-key
returns-then-key c = λ σ. meets (evict_key _ _ _ c.if-key.true)

pub returns : goal.returns
returns c = λ σ. meets (evict_none _ _ _ c.if-key.false)
