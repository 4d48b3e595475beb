-- What FILL and EVICT answer and do, case by case: each test of the definition's list decided, in its order. The token that a key's record
-- says is 0 where there is no lease, and a lease's token never is.
use mathlib.Core.Path.{◌≡◌, refl}
use mathlib.Core.Bool.{true, false}
use mathlib.Core.List.{[]}
use mathlib.Core.Option.{Option, none, some}
use Prim.Native.Nat.{ℕ, ◌≤◌, ◌<◌}
use lib.ListN.{length, set}
use borrow.Author.Tests.{eq-eqb, ne_eqb}
use Rattle.machine.specs.Sizes.{key_count, value_max}
use Rattle.machine.specs.Tables.{is_none}
use Rattle.machine.specs.State.{Value, Lease, State, cached, lease_on}
use Rattle.machine.specs.Expiry.{with_keys, set_value}
use Rattle.machine.specs.Sound.{token_in}
use Rattle.machine.specs.Effects.{told, matches, fills, effect}
use Rattle.machine.specs.Words.{ARG, LONG}
use Rattle.machine.specs.declared.Answer.{Answer}
use Rattle.machine.specs.declared.Command.{Command}
use Rattle.machine.proofs.FirstRefusal
use Rattle.layout.specs.Holds.{LeaseFits}
use Rattle.layout.proofs.Records.{lease_none}
use Rattle.outcome.specs.Outcome.{tried}

-- ---- the token

module _ (t : ℕ) where
  token-none : (o : Option Lease) → LeaseFits o → token_in o ≡ 0 → matches t o ≡ false
  token-none o f e = rw (lease_none o f e)

  token_other : (o : Option Lease) → (token_in o ≡ t → ⊥) → matches t o ≡ false
  token_other none n = refl
  token_other (some l) n = ne_eqb l.token t n

  token-same : (o : Option Lease) → (token_in o ≡ 0 → ⊥) → token_in o ≡ t → matches t o ≡ true
  token-same none n e = absurd (n refl)
  token-same (some l) n e = eq-eqb l.token t e

-- ---- FILL, which does not look at the time: 0 stands for it

module _ (s : State) (t k : ℕ) (v : Value) where
  pub fill_key : key_count ≤ k → tried s 0 (Command.Fill t k) v ≡ told (Answer.Refused ARG) s
  unfolding tried
  fill_key h = rw (FirstRefusal.fill_key s t k v h)

  module _ (h : k < key_count) where
    pub fill_long : value_max < length v → tried s 0 (Command.Fill t k) v ≡ told (Answer.Refused LONG) s
    unfolding tried
    fill_long l = rw (FirstRefusal.fill_long s t k v h l)

    module _ (l : length v ≤ value_max) where
      -- no lease has that token
      fill_ignored : matches t (lease_on s k) ≡ false → tried s 0 (Command.Fill t k) v ≡ told Answer.Ignored s
      unfolding tried effect
      fill_ignored e = rw (FirstRefusal.fill_none s t k v h l, e)

      pub fill_unleased : LeaseFits (lease_on s k) → token_in (lease_on s k) ≡ 0 → tried s 0 (Command.Fill t k) v ≡ told Answer.Ignored s
      fill_unleased f e = fill_ignored (token-none t (lease_on s k) f e)

      pub fill_other : (token_in (lease_on s k) ≡ t → ⊥) → tried s 0 (Command.Fill t k) v ≡ told Answer.Ignored s
      fill_other n = fill_ignored (token_other t (lease_on s k) n)

      pub fill_stored : (token_in (lease_on s k) ≡ 0 → ⊥) → token_in (lease_on s k) ≡ t → tried s 0 (Command.Fill t k) v ≡ told Answer.Stored (with_keys s (set s.keys k (record { value = some v; lease = none })))
      unfolding tried effect fills
      fill_stored n e = rw (FirstRefusal.fill_none s t k v h l, token-same t (lease_on s k) n e)

-- ---- EVICT, which does not either

module _ (s : State) (k : ℕ) where
  pub evict_key : key_count ≤ k → tried s 0 (Command.Evict k) [] ≡ told (Answer.Refused ARG) s
  unfolding tried
  evict_key h = rw (FirstRefusal.evict_key s k [] h)

  module _ (h : k < key_count) where
    pub evict_empty : is_none (cached s k) ≡ true → tried s 0 (Command.Evict k) [] ≡ told Answer.Empty s
    unfolding tried effect
    evict_empty e = rw (FirstRefusal.evict_none s k [] h, e)

    pub evict_evicted : is_none (cached s k) ≡ false → tried s 0 (Command.Evict k) [] ≡ told Answer.Evicted (with_keys s (set_value s.keys k none))
    unfolding tried effect
    evict_evicted e = rw (FirstRefusal.evict_none s k [] h, e)
