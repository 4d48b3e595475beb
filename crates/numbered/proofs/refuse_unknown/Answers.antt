-- STATE, CLOCK twice, then ARG, on the state that well-formed bytes hold.
use Rattle.std.specs.Prelude.{if◌then◌else◌}
use mathlib.Core.Path.{◌≡◌, refl}
use mathlib.Core.Bool.{Bool}
use lib.Dec.{ltb}
use borrow.Author.Tests.{lt-ltb, le-ltb}
use Rattle.machine.specs.Sizes.{time_max}
use Rattle.machine.specs.Words.{CLOCK, ARG}
use Rattle.machine.specs.declared.Answer.{Answer}
use Rattle.layout.specs.Layout.{decode}
use Rattle.layout.proofs.Formed.{holds_decoded}
use Rattle.numbered.specs.Commands.{unknown}
use Rattle.numbered.proofs.refuse_unknown.Goals as goal
use Rattle.numbered.proofs.refuse_unknown.Goals.{After-clock}

pub returns-in_default : goal.returns-in_default
unfolding unknown
returns-in_default c = rw c.in_default.ensures

-- well-formed bytes are refused by the clock that they hold
by-clock : (c : After-clock) {t u : Bool} → ltb c.args.time c.clock.result ≡ t → ltb time_max c.args.time ≡ u
    → (if t then Answer.Refused CLOCK else if u then Answer.Refused CLOCK else Answer.Refused ARG) ≡ unknown c.args.state.now c.args.time
unfolding unknown
by-clock c p q =
    let e = c.in-Some.ensures.0 in
    let same = c.in-Some.ensures.1 in
    rw (e, ← c.clock.ensures (decode c.args.state.now) (rw same (holds_decoded c.args.state.now e)), p, q)

pub returns-then-time-clock : goal.returns-then-time-clock
returns-then-time-clock c = by-clock (goal.at.returns-then-time-clock c).After-clock (lt-ltb _ _ c.if-time-clock.true) refl

pub returns-then-time-gt-TIME_MAX : goal.returns-then-time-gt-TIME_MAX
returns-then-time-gt-TIME_MAX c = by-clock (goal.at.returns-then-time-gt-TIME_MAX c).After-clock (le-ltb _ _ c.if-time-clock.false) (lt-ltb _ _ c.if-time-gt-TIME_MAX.true)

pub returns : goal.returns
returns c = by-clock (goal.at.returns c).After-clock (le-ltb _ _ c.if-time-clock.false) (le-ltb _ _ c.if-time-gt-TIME_MAX.false)
