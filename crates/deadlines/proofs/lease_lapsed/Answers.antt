-- A token of 0 is no lease (`lapsed_not`); any other has a deadline (`lapsed-by`).
use mathlib.Core.Path.{sym, ◌∙◌}
use native.Mathlib.Omega.{arith}
use Rattle.machine.specs.State.{lease_on}
use Rattle.layout.proofs.Held.{key_stands}
use Rattle.deadlines.proofs.Deadlines.{lapsed_not, lapsed-by}
use Rattle.deadlines.proofs.lease_lapsed.Goals as goal

pub returns-then-lease_token-eq0 : goal.returns-then-lease_token-eq0
returns-then-lease_token-eq0 c = let args = c.args in
    λ σ h. sym (lapsed_not args.time (lease_on σ args.k) (key_stands h args.k (omega arith)).fits.lease (sym (c.lease_token.ensures σ h) ∙ c.if-lease_token-eq0.true))

pub returns : goal.returns
returns c = let lease_token = c.lease_token in
    let args = c.args in
    λ σ h. rw (c.lease_until.ensures σ h) (sym (lapsed-by args.time (lease_on σ args.k) (λ q. c.if-lease_token-eq0.false (lease_token.ensures σ h ∙ q))))
