-- 01, "Expiry comes first": an I lease and a session that expire.
use Rattle.std.specs.Prelude.{ℕ, Bool, false, leb}
use Rattle.std.proofs.Math.Option.{Option, none, some}
use Rattle.machine.specs.Session.{is_due}
use Rattle.machine.specs.State.{Lease, Key, Slot, no_session, session}

-- an I lease with its deadline at or before now
abbrev pub lapsed : ℕ → Option Lease → Bool
lapsed now none = false
lapsed now (some l) = leb l.until now

abbrev pub lapsed_on : ℕ → Key → Bool
lapsed_on now e = lapsed now e.lease

-- an open session with its deadline at or before now
abbrev pub due_slot : ℕ → Slot → Bool
due_slot now no_session = false
due_slot now (session x) = is_due now x
