-- What STAGE answers and leaves, case by case: its own tests in their order, and then what its session found.
use Rattle.machine.specs.declared.Refusal.{Refusal}
use Rattle.std.specs.Prelude.{Result}
use mathlib.Core.Path.{◌≡◌}
use Prim.Native.Nat.{ℕ, ◌≤◌, ◌<◌}
use lib.ListN.{length}
use Rattle.machine.specs.Sizes.{key_count, step_max, value_max}
use Rattle.machine.specs.State.{Value, staged, State}
use Rattle.machine.specs.Effects.{told, effect}
use Rattle.machine.specs.Words.{ARG, LONG, REFRESH}
use Rattle.machine.specs.declared.Answer.{Answer}
use Rattle.machine.specs.declared.Command.TheVariants.{Stage}
use Rattle.machine.proofs.FirstRefusal
use Rattle.outcome.specs.Outcome.{tried}
use Rattle.stages.specs.Staging.{staging_of}
use Rattle.stages.specs.declared.Staging.{Staging}
use Rattle.stages.proofs.Staged.{staged_by, staged_by_lem}

-- 0 stands for the time, which STAGE does not look at
module _ (s : State) (n step k : ℕ) (v : Value) where
  pub stage_key : key_count ≤ k → tried s 0 (Stage n step k) v ≡ told (Answer.Refused ARG) s
  unfolding tried
  stage_key h = rw (FirstRefusal.stage_key s n step k v h)

  pub stage_step : step_max ≤ step → tried s 0 (Stage n step k) v ≡ told (Answer.Refused ARG) s
  unfolding tried
  stage_step h = rw (FirstRefusal.stage_step s n step k v h)

  module _ (a : k < key_count) (b : step < step_max) where
    pub stage_long : value_max < length v → tried s 0 (Stage n step k) v ≡ told (Answer.Refused LONG) s
    unfolding tried
    stage_long h = rw (FirstRefusal.stage_long s n step k v a b h)

    pub stage_found : {r : Result Staging Refusal} → length v ≤ value_max → staging_of s n step k REFRESH ≡ r → tried s 0 (Stage n step k) v ≡ staged_by s (staged v) r
    unfolding tried effect
    stage_found h e = rw (FirstRefusal.stage_staging s n step k v a b h) (staged_by_lem s n step k REFRESH (staged v) e)
