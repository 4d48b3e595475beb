-- Whoever is left may go.
use mathlib.Core.Bool.{not}
use mathlib.Core.Path.{ap, ◌∙◌}
use Rattle.machine.proofs.FirstRefusal.{undo_not_live, undo_none}
use Rattle.refusals.proofs.Lefts.{left_open, left_shut, meets}
use Rattle.refusals.proofs.undo.Goals as goal

pub returns-then-is_none : goal.returns-then-is_none
returns-then-is_none c = λ σ h ok. meets (undo_not_live _ _ _ (left_shut _ (c.session.ensures σ h ok) (c.is_none.ensures ∙ ap not c.if-is_none.true)))

pub returns : goal.returns
returns c = λ σ h ok. let w = left_open _ (c.session.ensures σ h ok) (c.is_none.ensures ∙ ap not c.if-is_none.false) in meets (undo_none _ _ _ w.0 w.1)
