-- What DELTA answers and leaves, case by case: its own tests in their order, and then what its session found; and where a session stages,
-- the row that was found is the one that is changed.
use Rattle.machine.specs.declared.Refusal.{Refusal}
use Rattle.std.specs.Prelude.{Option as Made, Result, Ok}
use mathlib.Core.Path.{◌≡◌, refl, ap, ◌∙◌}
use mathlib.Core.Bool.{true, false}
use mathlib.Core.List.{List}
use Prim.Native.Nat.{ℕ, ◌≤◌, ◌<◌}
use lib.ListN.{length, set}
use Rattle.machine.specs.Sizes.{key_count, step_max, value_max}
use Rattle.machine.specs.Words.{is_operation, ARG, LONG, INCREMENTAL}
use Rattle.machine.specs.State.{Value, session, Row, State, staged_in, row_of, row_at, cached}
use Rattle.machine.specs.Expiry.{with_sessions, with_rows}
use Rattle.machine.specs.Effects.{told, or_drop, changed, staged_answer, restaged, effect}
use Rattle.machine.specs.Sound.{sound}
use Rattle.machine.specs.declared.Session.{Session}
use Rattle.machine.specs.declared.Answer.{Answer}
use Rattle.machine.specs.declared.Command.TheVariants.{Delta}
use Rattle.machine.proofs.FirstRefusal
use Rattle.outcome.specs.Outcome.{tried, Gives}
use Rattle.layout.specs.Holds.{Holds}
use Rattle.stages.specs.Staging.{staging_of}
use Rattle.stages.specs.declared.Staging.{Staging}
use Rattle.stages.proofs.Staged.{staged_by, staged_by_lem, staging_at}
use Rattle.deltas.specs.Changes.{value_in, changed_in, changes}

-- DELTA's arguments are right
pub record Right (m k o : ℕ) (x : Value) : Type 0 where
  pub key : k < key_count
  pub operation : is_operation o ≡ true
  pub step : m < step_max
  pub short : length x ≤ value_max

-- 0 stands for the time, which DELTA does not look at
module _ (s : State) (n step k operation : ℕ) (x : Value) where
  pub delta_key : key_count ≤ k → tried s 0 (Delta n step k operation) x ≡ told (Answer.Refused ARG) s
  unfolding tried
  delta_key h = rw (FirstRefusal.delta_key s n step k operation x h)

  pub delta_operation : is_operation operation ≡ false → tried s 0 (Delta n step k operation) x ≡ told (Answer.Refused ARG) s
  unfolding tried
  delta_operation e = rw (FirstRefusal.delta_operation s n step k operation x e)

  pub delta_step : step_max ≤ step → tried s 0 (Delta n step k operation) x ≡ told (Answer.Refused ARG) s
  unfolding tried
  delta_step h = rw (FirstRefusal.delta_step s n step k operation x h)

  pub delta_long : k < key_count → is_operation operation ≡ true → step < step_max → value_max < length x → tried s 0 (Delta n step k operation) x ≡ told (Answer.Refused LONG) s
  unfolding tried
  delta_long a o b h = rw (FirstRefusal.delta_long s n step k operation x a o b h)

  module _ (w : Right step k operation x) where
    pub delta_found : {r : Result Staging Refusal} → staging_of s n step k INCREMENTAL ≡ r → tried s 0 (Delta n step k operation) x ≡ staged_by s (changed operation x (staged_in (row_of s n k)) (cached s k)) r
    unfolding tried effect
    delta_found e =
        rw (FirstRefusal.delta_staging s n step k operation x w.key w.operation w.step w.short)
        (staged_by_lem s n step k INCREMENTAL (changed operation x (staged_in (row_of s n k)) (cached s k)) e)

    -- the session at place i and its row at place j: the session's next record, and then the row's change
    pub delta_changes : sound s ≡ true → (i j : ℕ) (y : Session) → staging_of s n step k INCREMENTAL ≡ Ok (Staging.At i j y)
        → tried s 0 (Delta n step k operation) x ≡ changes (with_sessions s (set s.sessions i (session y))) j k operation x
    unfolding changes
    delta_changes ok i j y e =
        delta_found e ∙ ap (λ (u : Row). staged_by s (changed operation x (staged_in u) (cached s k)) (Ok (Staging.At i j y))) (staging_at s n step k INCREMENTAL ok i j y e).row

-- ---- what is staged

-- the change of row i on key k, once what was made is known: a, which the buffer o has, is to be staged, and d, which is a, is staged
pub change_gives : (s : State) (i k operation : ℕ) (x : Value) (o : List ℕ) {a d : Made ℕ} {b : List ℕ} → or_drop (value_in a o) ≡ changed_in s i k operation x → a ≡ d
    → Holds b (with_rows s (set s.rows i (restaged (or_drop (value_in d o)) (row_at s i)))) → Gives (changes s i k operation x) (staged_answer (or_drop (value_in d o))) b
unfolding changes
change_gives s i k operation x o made e h = rw (← made, e) (record { answer = refl; holds = h })
