-- Key and kind, then the session; an open one goes on by its own number.
use mathlib.Core.Path.{◌≡◌, sym, ◌∙◌}
use mathlib.Core.Bool.{true}
use Prim.Native.Nat.{◌<◌}
use native.Mathlib.Omega.{arith}
use Rattle.lent.proofs.Choices.{test_failed, test_passed}
use Rattle.machine.specs.Sizes.{key_count}
use Rattle.machine.specs.Words.{INVALIDATE, INCREMENTAL, is_kind}
use Rattle.machine.specs.WellFormed.{Within}
use Rattle.machine.proofs.Accepted.{is_kind_lem}
use Rattle.askers.proofs.Asked.{asks, asks-numbered}
use Rattle.outcome.proofs.Told.{gives}
use Rattle.quars.proofs.Tried.{quar_key, quar_kind, quar_refused, quar_open}
use Rattle.quars.proofs.quar.Goals as goal
use Rattle.quars.proofs.quar.Goals.{After-find}

pub returns-then-key : goal.returns-then-key
returns-then-key c = λ σ h ok. gives (quar_key σ _ _ _ c.if-key.true) h

pub returns-then-not-is_kind : goal.returns-then-not-is_kind
returns-then-not-is_kind c = λ σ h ok. gives (quar_kind σ _ _ _ (test_failed c.is_kind.ensures c.if-not-is_kind.true)) h

-- the tests of the key and of the kind are passed
right : (c : After-find) → let a = c.args in (a.key < key_count) × (is_kind a.kind ≡ true)
right c = (c.if-key.false, test_passed c.is_kind.ensures c.if-not-is_kind.false)

-- the kind is 1, 2 or 3
kind-within : (c : After-find) → Within INVALIDATE INCREMENTAL c.args.kind
kind-within c = is_kind_lem _ (right c).1

pub overflow_cast-kind : goal.overflow_cast-kind
overflow_cast-kind c = omega (arith, (kind-within (goal.at.overflow_cast-kind c).After-find).1)

pub hold-requires : goal.hold-requires
hold-requires c = let d = kind-within (goal.at.hold-requires c).After-find in
    (rw c.in-Ok.is at c.find.ensures.1, (d.0, omega (arith, d.1)))

pub returns-in-Err : goal.returns-in-Err
returns-in-Err c = λ σ h ok. gives (quar_refused σ _ _ _ (right (goal.at.returns-in-Err c).After-find).0 (right (goal.at.returns-in-Err c).After-find).1 _ (sym (c.find.ensures.0 σ h) ∙ c.in-Err.is)) h

pub returns-in-Ok : goal.returns-in-Ok
returns-in-Ok c = let hold = c.hold in
    let args = c.args in
    λ σ h ok.
    let q = sym (c.find.ensures.0 σ h) ∙ c.in-Ok.is in
    let a = asks σ args.session c.in-Ok.asker q in
    rw (quar_open σ args.session args.key args.kind (right (goal.at.returns-in-Ok c).After-find).0 (right (goal.at.returns-in-Ok c).After-find).1 _ q)
    (rw a.number at (hold.ensures σ h ok (asks-numbered a)))
