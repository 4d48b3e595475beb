-- A place with the number 0 is free (`due_not`); any other session says itself whether it is due (`due-by`).
use mathlib.Core.Path.{◌≡◌, sym, ap, ◌∙◌}
use native.Mathlib.Omega.{arith}
use Rattle.machine.specs.State.{session_at}
use Rattle.machine.specs.declared.Session.{Session}
use Rattle.layout.specs.Fields.{session_in}
use Rattle.layout.proofs.Held.{session_stands}
use Rattle.deadlines.proofs.Deadlines.{due_not, due-by}
use Rattle.deadlines.proofs.session_due.Goals as goal

pub returns-then-x-eq0 : goal.returns-then-x-eq0
returns-then-x-eq0 c = let load = c.load-x in
    let args = c.args in
    λ σ h.
    let e = session_at σ args.i in
    let zero : (session_in e).number ≡ 0 = sym (ap (λ (x : Session). x.number) (load.ensures σ h)) ∙ c.if-x-eq0.true in
    sym (due_not args.time e (session_stands h args.i (omega arith)).fits zero)

pub returns : goal.returns
returns c = let load = c.load-x in
    let args = c.args in
    λ σ h.
    let e = session_at σ args.i in
    let there : (session_in e).number ≡ 0 → ⊥ = λ q. c.if-x-eq0.false (ap (λ (x : Session). x.number) (load.ensures σ h) ∙ q) in
    c.due.ensures ∙ rw (load.ensures σ h) (sym (due-by args.time e there))
