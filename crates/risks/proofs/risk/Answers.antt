-- A wrong length is not well formed; else each arm is the risk of its command, on the state that the bytes hold.
use Rattle.layout.specs.Layout.{decode}
use Rattle.layout.proofs.Formed.{formed, holds_decoded}
use Rattle.risks.specs.Risks.{wrote_for, stale_for}
use Rattle.risks.proofs.risk.Goals as goal

pub returns-in_default : goal.returns-in_default
returns-in_default c = λ e. absurd (c.in_default.ensures.cases (formed c.args.cache.now e).size)

pub returns-in-Done : goal.returns-in-Done
unfolding stale_for
returns-in-Done c = λ e. rw c.in-Done.is (c.done_risk.ensures (decode c.args.cache.now) (rw c.in-Some.ensures.cases.same (holds_decoded c.args.cache.now e)))

pub returns-in-Undo : goal.returns-in-Undo
unfolding wrote_for
returns-in-Undo c = λ e. rw c.in-Undo.is (c.undo_risk.ensures (decode c.args.cache.now) (rw c.in-Some.ensures.cases.same (holds_decoded c.args.cache.now e)))
