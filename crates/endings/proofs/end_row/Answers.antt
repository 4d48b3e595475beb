-- A free row and one of another session stay (`row_free`, `row_stays`); else the key is settled and the row freed (`row_ends`).
use mathlib.Core.Path.{◌≡◌, sym, ◌∙◌}
use mathlib.Core.Bool.{true}
use native.Mathlib.Omega.{arith}
use Rattle.lent.proofs.Choices.{test_failed, test_passed}
use Rattle.machine.specs.Tables.{mem}
use Rattle.machine.specs.State.{row_at}
use Rattle.layout.specs.Fields.{row_session}
use Rattle.layout.proofs.Held.{row_stands}
use Rattle.endings.proofs.Steps.{row_free, row_stays, row_ends}
use Rattle.endings.proofs.end_row.Goals as goal

pub returns-then-n-eq0 : goal.returns-then-n-eq0
returns-then-n-eq0 c = let args = c.args in
    λ σ h. rw (row_free args.ending args.ns.now args.i σ (row_stands h args.i (omega arith)).fits (sym (c.session-n.ensures σ h) ∙ c.if-n-eq0.true)) h

pub returns-then-not-among : goal.returns-then-not-among
returns-then-not-among c = let session = c.session-n in
    let args = c.args in
    λ σ h. rw (row_stays args.ending args.ns.now args.i σ (rw (← session.ensures σ h) (test_failed c.among.ensures c.if-not-among.true))) h

pub returns : goal.returns
returns c = let free-row = c.free_row in
    let settle = c.settle in
    let key = c.key-k in
    let if2 = c.if-not-among in
    let among = c.among in
    let if1 = c.if-n-eq0 in
    let session = c.session-n in
    let args = c.args in
    λ σ h.
    let other : row_session (row_at σ args.i) ≡ 0 → ⊥ = λ q. if1.false (session.ensures σ h ∙ q) in
    let one : mem (row_session (row_at σ args.i)) args.ns.now ≡ true = rw (← session.ensures σ h) (test_passed among.ensures if2.false) in
    rw (row_ends args.ending args.ns.now args.i σ other one, ← key.ensures.0 σ h) (free-row.ensures _ (settle.ensures σ h))
