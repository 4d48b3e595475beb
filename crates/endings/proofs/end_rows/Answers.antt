-- After i turns the bytes hold the state after i steps of `end_row`; all of them are `end_rows` (`rows_ended`).
use native.Mathlib.Omega.{arith}
use borrow.Author.Rules.{rules}
use Rattle.layout.proofs.Walked.{walked_none, walked_more, walked_all}
use Rattle.endings.proofs.Ended.{rows_ended}
use Rattle.endings.proofs.end_rows.Goals as goal

pub loop-i-init : goal.loop-i-init
loop-i-init c = (search rules, search rules, walked_none)

pub loop-i-preserved : goal.loop-i-preserved
loop-i-preserved c = (search rules, search rules, walked_more c.loop-i.invariant.2 c.end_row.ensures)

pub returns : goal.returns
returns c = λ σ h. walked_all c.loop-i.invariant.2 (omega arith) h (rows_ended _ _ σ h.fits.rows)
