-- P1 to P12 hold: the definitions compute each example's answers.
use mathlib.Core.Path.{◌≡◌, refl}
use mathlib.Core.List.{map}
use Rattle.counts.specs.Count.{read_count}
use Rattle.machine.specs.Decision.{decision}
use Rattle.machine.specs.State.{fresh}
use Rattle.machine.specs.Expiry.{leave, finish, expire}
use Rattle.machine.specs.Refusals.{decide, blocked, sight, would_lease, would_grant, refusals, refusal}
use Rattle.machine.specs.Effects.{begins, wait, leased, missed, looked, fills, asks, operate, changed, stages, effect}
use Rattle.machine.specs.Step.{settled, step}
use Rattle.machine.specs.Examples.{answered, examples}

pub examples-hold : map answered examples ≡ map (λ e. e.gives) examples
unfolding read_count decision fresh leave finish expire decide blocked sight would_lease would_grant refusals refusal begins wait leased missed looked fills asks operate changed stages effect settled step
examples-hold = refl
