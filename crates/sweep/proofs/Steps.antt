-- One step of each loop: what it does where the lease or the session goes, and that it does nothing where it stays.
use mathlib.Core.Path.{◌≡◌, refl}
use mathlib.Core.Bool.{true, false}
use mathlib.Core.List.{[], ◌∷◌}
use mathlib.Core.Option.{none}
use Prim.Native.Nat.{ℕ}
use lib.ListN.{set}
use lib.Seq.{set-get_or}
use Rattle.lent.proofs.Choices.{clash}
use Rattle.machine.specs.State.{blank, Slot, no_session, session, State, key_of, session_at}
use Rattle.machine.specs.Sound.{number_in}
use Rattle.machine.specs.Expiry.{with_keys, with_sessions, set_lease}
use Rattle.deadlines.specs.Deadlines.{lapsed_on, due_slot}
use Rattle.deadlines.proofs.Deadlines.{unlapsed-same, unlapsed-none}
use Rattle.sweep.specs.Lapsing.{lapse_key, noted, end_due}

-- a lease
module _ (now k : ℕ) (s : State) where
  pub lease_stays : lapsed_on now (key_of s k) ≡ false → lapse_key now k s ≡ s
  unfolding lapse_key
  lease_stays m = rw (unlapsed-same now (key_of s k).lease m, set-get_or s.keys k blank)

  pub lease_goes : lapsed_on now (key_of s k) ≡ true → lapse_key now k s ≡ with_keys s (set_lease s.keys k none)
  unfolding lapse_key
  lease_goes m = rw (unlapsed-none now (key_of s k).lease m)

-- a session
module _ (now i : ℕ) (s : State) where
  pub session_stays : due_slot now (session_at s i) ≡ false → end_due now i s ≡ s
  unfolding end_due
  session_stays m = rw (m, set-get_or s.sessions i no_session)

  pub session_ends : due_slot now (session_at s i) ≡ true → end_due now i s ≡ with_sessions s (set s.sessions i no_session)
  unfolding end_due
  session_ends m = rw m

-- its number is noted as it ends
pub noted_not : (now : ℕ) (e : Slot) → due_slot now e ≡ false → noted now e ≡ []
noted_not now no_session m = refl
noted_not now (session x) m = rw m

pub noted_is : (now : ℕ) (e : Slot) → due_slot now e ≡ true → noted now e ≡ number_in e ∷ []
noted_is now no_session m = clash false m refl
noted_is now (session x) m = rw m
