-- Where no number is left nothing changes (`begin_spent`); else the record and the next number are stored one after the other (`begin_gives`).
use native.Mathlib.Omega.{arith}
use Rattle.outcome.proofs.Told.{gives}
use Rattle.machine.proofs.SoundFacts as facts
use Rattle.machine.specs.State.{session}
use Rattle.machine.specs.Expiry.{with_sessions}
use lib.ListN.{set}
use Rattle.openings.proofs.Tried.{begin_spent, begin_gives}
use borrow.Author.Rules.{rules}
use Rattle.openings.proofs.open.Goals as goal

pub returns-then-n-ge-NUMBER_MAX : goal.returns-then-n-ge-NUMBER_MAX
returns-then-n-ge-NUMBER_MAX c = let next_session_lem = c.next_session-n in
    let args = c.args in
    λ σ h ok p. gives (begin_spent σ ok args.time args.i (search rules) p next_session_lem.result (next_session_lem.ensures σ h) (search rules)) h

pub returns : goal.returns
returns c = let store-next-session = c.store_next_session in
    let store = c.store in
    let opened = c.«open» in
    let write_life_lem = c.write_life in
    let next_session_lem = c.next_session-n in
    λ σ h ok p.
    begin_gives σ ok c.args.time c.args.i c.requires.0 p _ next_session_lem.result write_life_lem.result opened.result
    (next_session_lem.ensures σ h) (write_life_lem.ensures.0 σ h) (search rules) opened.ensures
    (store-next-session.ensures (with_sessions σ (set σ.sessions c.args.i (session opened.result)))
    (store.ensures σ h (rw opened.ensures (rw (next_session_lem.ensures σ h) (facts.next_session_lem σ ok).0)) (rw opened.ensures (omega arith))))
