-- Key, then session; the token is asked before the key is looked at, and both have to hold for the last test.
use mathlib.Core.Path.{sym, ◌∙◌}
use Rattle.refusals.proofs.Expired.{head_expired}
use Rattle.machine.proofs.FirstRefusal.{get_key, get_unknown, get_numbers, get_token, get_unleased}
use Rattle.refusals.proofs.Lefts.{meets}
use Rattle.refusals.proofs.get.Goals as goal

pub returns-then-key : goal.returns-then-key
returns-then-key c = λ σ h ok. meets (get_key _ _ _ _ c.if-key.true)

pub returns-then-is_unknown : goal.returns-then-is_unknown
returns-then-is_unknown c = λ σ h ok. meets (get_unknown _ _ _ _ c.if-key.false (sym (c.is_unknown.ensures σ h ok) ∙ c.if-is_unknown.true))

pub returns-then-next_token-lt-NUMBER_MAX : goal.returns-then-next_token-lt-NUMBER_MAX
returns-then-next_token-lt-NUMBER_MAX c = λ σ h ok. meets (get_token _ _ _ _ c.if-key.false (sym (c.is_unknown.ensures σ h ok) ∙ c.if-is_unknown.false) (rw (head_expired σ _, ← c.next_token.ensures σ h) c.if-next_token-lt-NUMBER_MAX.true))

pub returns-then-would_lease : goal.returns-then-would_lease
returns-then-would_lease c =
    λ σ h ok.
    let known = sym (c.is_unknown.ensures σ h ok) ∙ c.if-is_unknown.false in
    meets (get_numbers _ _ _ _ c.if-key.false known (sym (c.would_lease.ensures σ h ok _) ∙ c.if-would_lease.true) (rw (head_expired σ _, ← c.next_token.ensures σ h) c.if-next_token-lt-NUMBER_MAX.false))

pub returns : goal.returns
returns c =
    let if2 = c.if-is_unknown in
    let is-unknown = c.is_unknown in
    let if1 = c.if-key in
    λ σ h ok. meets (get_unleased _ _ _ _ if1.false (sym (is-unknown.ensures σ h ok) ∙ if2.false) (sym (c.would_lease.ensures σ h ok _) ∙ c.if-would_lease.false))
