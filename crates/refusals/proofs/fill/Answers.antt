-- FILL is refused for its key or its value alone.
use Rattle.machine.proofs.FirstRefusal.{fill_key, fill_long, fill_none}
use Rattle.refusals.proofs.Lefts.{meets}
use Rattle.refusals.proofs.fill.Goals as goal

pub returns-then-key : goal.returns-then-key
returns-then-key c = λ σ token. meets (fill_key _ _ _ _ c.if-key.true)

pub returns-then-value-gt-VALUE_MAX : goal.returns-then-value-gt-VALUE_MAX
returns-then-value-gt-VALUE_MAX c = λ σ token. meets (fill_long _ _ _ _ c.if-key.false c.if-value-gt-VALUE_MAX.true)

pub returns : goal.returns
returns c = λ σ token. meets (fill_none _ _ _ _ c.if-key.false c.if-value-gt-VALUE_MAX.false)
