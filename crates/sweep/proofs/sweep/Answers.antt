-- Leases, sessions and rows one after the other are `expire` (`expire-whole`); where no session was due the rows stay as they are (`expire-none`).
use mathlib.Core.List.{[]}
use mathlib.Core.Path.{◌≡◌, sym, ap, ◌∙◌}
use Prim.Native.Nat.{ℕ}
use lib.ListN.{take}
use Rattle.machine.specs.Session.{is_due}
use Rattle.machine.specs.Expiry.{those}
use Rattle.sweep.proofs.Whole.{expire-whole, expire-none}
use Rattle.sweep.proofs.sweep.Goals as goal

pub returns-then-count-eq0 : goal.returns-then-count-eq0
returns-then-count-eq0 c = let end-sessions = c.end_sessions-count in
    let lapse-leases = c.lapse_leases in
    let args = c.args in
    λ σ h ok.
    let ends = end-sessions.ensures.1 _ (lapse-leases.ensures σ h) in
    let empty : those (is_due args.time) σ.sessions ≡ [] = sym ends.1 ∙ ap (λ (n : ℕ). take n end-sessions.new.ns) c.if-count-eq0.true in
    rw (← expire-none σ ok args.time empty) ends.0

pub returns : goal.returns
returns c = let end-rows = c.end_rows in
    let end-sessions = c.end_sessions-count in
    let lapse-leases = c.lapse_leases in
    let args = c.args in
    λ σ h ok.
    let ends = end-sessions.ensures.1 _ (lapse-leases.ensures σ h) in
    rw (← expire-whole σ ok args.time, ← ends.1) (end-rows.ensures _ ends.0)
