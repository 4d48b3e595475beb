-- A free row and one on another key do not stay on the key; any other goes or stays.
use Rattle.machine.specs.State.{row_at}
use mathlib.Core.Path.{sym, ◌∙◌}
use Rattle.layout.proofs.Held.{row_stands}
use Rattle.refusals.proofs.Leases.{stays_free}
use Rattle.refusals.proofs.after.row_stays.Goals as goal

pub returns-then-session-eq0 : goal.returns-then-session-eq0
returns-then-session-eq0 c =
    let a = c.args in
    λ σ h. sym (stays_free a.time σ a.k (row_at σ a.i) (row_stands h a.i c.requires).fits (sym (c.session.ensures σ h) ∙ c.if-session-eq0.true))
