-- Each refusal in its order, then the token that the key's record says: 0 and another are ignored, and under that of the lease the value is
-- filled in.
use native.Mathlib.Omega.{arith}
use mathlib.Core.Path.{sym, ◌∙◌}
use Rattle.outcome.proofs.Told.{gives}
use Rattle.layout.proofs.Held.{key_stands}
use Rattle.fills.proofs.Tried.{fill_key, fill_long, fill_unleased, fill_other, fill_stored}
use Rattle.fills.proofs.fill.Goals as goal

pub returns-then-key : goal.returns-then-key
returns-then-key c = λ σ h e. gives (fill_key _ _ _ _ (omega arith)) h

pub returns-then-value-gt-VALUE_MAX : goal.returns-then-value-gt-VALUE_MAX
returns-then-value-gt-VALUE_MAX c = λ σ h e. gives (fill_long _ _ _ _ (omega arith) (omega arith)) h

pub returns-then-held-eq0 : goal.returns-then-held-eq0
returns-then-held-eq0 c = let lease_token = c.lease_token in
    λ σ h e. gives (fill_unleased _ _ _ _ (omega arith) (omega arith) (key_stands h _ (omega arith)).fits.lease (sym (c.from-held.ensures ∙ lease_token.ensures σ h) ∙ c.if-held-eq0.true)) h

pub returns-then-held-token : goal.returns-then-held-token
returns-then-held-token c = let lease_token = c.lease_token in
    λ σ h e. gives (fill_other _ _ _ _ (omega arith) (omega arith) (λ q. c.if-held-token.true (c.from-held.ensures ∙ lease_token.ensures σ h ∙ q))) h

pub returns : goal.returns
returns c = let fill = c.fill in
    let if4 = c.if-held-token in
    let if3 = c.if-held-eq0 in
    let lease_token = c.lease_token in
    λ σ h e. gives (fill_stored _ _ _ _ (omega arith) (omega arith) (λ q. if3.false (c.from-held.ensures ∙ lease_token.ensures σ h ∙ q)) (sym (c.from-held.ensures ∙ lease_token.ensures σ h) ∙ if4.false)) (fill.ensures σ h)
