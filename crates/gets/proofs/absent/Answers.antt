-- A blocked key is BACKOFF. The next token of a sound state is not 0, so outside the range there is none left to give (NUMBERS); else it is given.
use mathlib.Core.Path.{sym, ap, ◌∙◌}
use native.Mathlib.Omega.{arith}
use Rattle.machine.specs.declared.Answer.{Answer}
use Rattle.machine.proofs.SoundFacts.{next-token}
use Rattle.gets.proofs.Tried.{absent-blocked, absent-refused, absent-leased}
use Rattle.outcome.proofs.Told.{gives}
use Rattle.gets.proofs.absent.Goals as goal

pub returns-then-is_blocked : goal.returns-then-is_blocked
returns-then-is_blocked c = let if1 = c.if-is_blocked in
    let is-blocked = c.is_blocked in
    let args = c.args in
    λ σ h e. rw (absent-blocked σ args.time args.k (sym (is-blocked.ensures σ h e) ∙ if1.true)) (record { answer = ap Answer.Backoff (c.wait.ensures σ h); holds = h })

pub returns-in-1-to-4294967294 : goal.returns-in-1-to-4294967294
returns-in-1-to-4294967294 c = let lease = c.lease in
    let next-token = c.next_token-token in
    let if1 = c.if-is_blocked in
    let is-blocked = c.is_blocked in
    let args = c.args in
    λ σ h e. let t = next-token.ensures σ h in
    rw (absent-leased σ args.time args.k (sym (is-blocked.ensures σ h e) ∙ if1.false) (omega (arith, t))) (lease.ensures σ h t)

pub returns-in_default : goal.returns-in_default
returns-in_default c = λ σ h e. absurd (omega (arith, c.next_token-token.ensures σ h, (next-token σ e).0))

pub returns-in_default-2 : goal.returns-in_default-2
returns-in_default-2 c = let next-token = c.next_token-token in
    let if1 = c.if-is_blocked in
    let is-blocked = c.is_blocked in
    let args = c.args in
    λ σ h e. gives (absent-refused σ args.time args.k (sym (is-blocked.ensures σ h e) ∙ if1.false) (omega (arith, next-token.ensures σ h))) h
