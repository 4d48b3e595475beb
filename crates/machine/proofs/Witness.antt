-- Demand 3 is not empty: the run of `specs/Witness.antt` is told what stands there and keeps the rules, both computed by the definitions.
use mathlib.Core.Path.{◌≡◌, refl}
use Prim.Native.Nat.{ℕ}
use lib.ListN.{take, drop, take-append-drop}
use Rattle.lent.specs.Tables.{same, all_zero}
use Rattle.counts.specs.Count.{read_count}
use Rattle.machine.specs.Decision.{decision}
use Rattle.machine.specs.State.{fresh}
use Rattle.machine.specs.Expiry.{leave, finish, expire}
use Rattle.machine.specs.Refusals.{decide, blocked, sight, would_lease, would_grant, refusals, refusal}
use Rattle.machine.specs.Effects.{begins, wait, leased, missed, looked, fills, asks, operate, changed, stages, effect}
use Rattle.machine.specs.Step.{settled, step}
use Rattle.machine.specs.World.{fresh_world, commanded, written, run, AllKept, Consistent}
use Rattle.machine.specs.Examples.{example_read_life, example_write_life}
use Rattle.machine.specs.Witness.{heard, events, expected}
use Rattle.machine.proofs.Tested.{all_kept_of}
use Rattle.machine.proofs.Demand3.{demand_3}

pub witness_heard : heard (fresh_world example_read_life example_write_life) events ≡ expected
unfolding read_count decision fresh leave finish expire decide blocked sight would_lease would_grant refusals refusal begins wait leased missed looked fills asks operate changed stages effect settled step commanded written
witness_heard = refl

pub witness_kept : AllKept (fresh_world example_read_life example_write_life) events
unfolding same all_zero read_count decision fresh leave finish expire decide blocked sight would_lease would_grant refusals refusal begins wait leased missed looked fills asks operate changed stages effect settled step commanded written
witness_kept = all_kept_of (fresh_world example_read_life example_write_life) events refl

-- so the promise holds at each of its moments
pub witness_consistent : (i : ℕ) → Consistent (run (fresh_world example_read_life example_write_life) (take i events))
witness_consistent i = demand_3 example_read_life example_write_life (take i events) (drop i events) (rw (take-append-drop i events) witness_kept)
