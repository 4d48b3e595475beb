-- A deadline is looked at only where there is one: a token of 0 is no lease, and a place with the number 0 is free. A lease that has lapsed
-- is gone after expiry, and any other is as it was.
use mathlib.Core.Path.{◌≡◌, refl}
use mathlib.Core.Bool.{false, true}
use mathlib.Core.Option.{Option, none, some}
use Prim.Native.Nat.{ℕ}
use lib.Dec.{leb}
use Rattle.machine.specs.Session.{is_due}
use Rattle.machine.specs.State.{Lease, Slot, no_session, session}
use Rattle.machine.specs.Sound.{token_in}
use Rattle.machine.specs.Expiry.{unlapsed}
use Rattle.layout.specs.Fields.{lease_until, session_in}
use Rattle.layout.specs.Holds.{LeaseFits, SlotFits}
use Rattle.layout.proofs.Records.{lease_none, slot_none}
use Rattle.deadlines.specs.Deadlines.{lapsed, due_slot}

module _ (now : ℕ) where
  pub lapsed_not : (o : Option Lease) → LeaseFits o → token_in o ≡ 0 → lapsed now o ≡ false
  lapsed_not o f e = rw (lease_none o f e)

  pub lapsed-by : (o : Option Lease) → (token_in o ≡ 0 → ⊥) → lapsed now o ≡ leb (lease_until o) now
  lapsed-by none e = absurd (e refl)
  lapsed-by (some l) e = refl

  pub due_not : (e : Slot) → SlotFits e → (session_in e).number ≡ 0 → due_slot now e ≡ false
  due_not e f z = rw (slot_none e f z)

  pub due-by : (e : Slot) → ((session_in e).number ≡ 0 → ⊥) → due_slot now e ≡ is_due now (session_in e)
  due-by no_session z = absurd (z refl)
  due-by (session x) z = refl

  -- the lease after expiry
  pub unlapsed-same : (o : Option Lease) → lapsed now o ≡ false → unlapsed now o ≡ o
  unlapsed-same none e = refl
  unlapsed-same (some l) e = rw e

  pub unlapsed-none : (o : Option Lease) → lapsed now o ≡ true → unlapsed now o ≡ none
  unlapsed-none none e = refl
  unlapsed-none (some l) e = rw e
