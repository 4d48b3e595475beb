-- The mark 2 is a sealed session's.
use mathlib.Core.Path.{sym, ap, ◌∙◌}
use Rattle.machine.specs.declared.Life.{Life}
use Rattle.sessions.proofs.Slots.{life_sealed, life_open}
use Rattle.sessions.proofs.load_life.Goals as goal

pub returns-then-s-at-eq-SEALED : goal.returns-then-s-at-eq-SEALED
returns-then-s-at-eq-SEALED c = sym (life_sealed c.args.s.now c.args.at c.if-s-at-eq-SEALED.true)

pub returns : goal.returns
returns c = ap Life.Open c.load_u64.ensures ∙ sym (life_open c.args.s.now c.args.at c.if-s-at-eq-SEALED.false)
