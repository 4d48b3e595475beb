-- Words of the theorems' own: what a theorem of `proofs/` says beyond the definitions of the machine.
use Rattle.std.specs.Prelude.{◌≡◌, Bool, true, false, ◌&&◌, List, [], ◌∷◌, ℕ, ◌+◌, ◌≤◌, ◌<◌, eqb, ltb, get_or, if◌then◌else◌}
use Rattle.std.proofs.Math.Option.{some}
use Rattle.machine.specs.Words.{STATE}
use Rattle.machine.specs.State.{Value, Lease, session, State, session_at, lease_on}
use Rattle.machine.specs.WellFormed.{Within}
use Rattle.machine.specs.Expiry.{expire}
use Rattle.machine.specs.Refusals.{clock_refusal, refusals}
use Rattle.machine.specs.World.{HasRow, Sealed}
use Rattle.machine.specs.declared.Refusal.{Refusal}
use Rattle.machine.specs.declared.Life.{Life}
use Rattle.machine.specs.declared.Session.{Session}
use Rattle.machine.specs.declared.Command.{Command}
use Rattle.machine.specs.declared.Verdict.{Verdict}
use Rattle.machine.specs.declared.Verdict.TheVariants.{Grant, Void, BackOff, Abort}

-- The decision table as a rule (`decision-by`)

-- nothing held: granted; an I lease asked where anything is held: back off; a Q where an I lease is held: granted and the I lease voided;
-- Q1 where Q1 is held: granted; every other Q: the asker is aborted
abbrev pub verdict_by : ℕ → ℕ → Verdict
verdict_by held asked =
    if eqb held 0 then Grant
    else if eqb asked 0 then BackOff
    else if eqb held 1 then Void
    else if eqb held 2 && eqb asked 1 then Grant
    else Abort

-- Refusals (`refused-first`, `first-refused`, `in_order`)

-- the tests of a command, on the state after expiry, in order
abbrev pub tests : State → ℕ → Command → Value → List (Bool × Refusal)
tests s now c v = clock_refusal (expire now s) now ∷ refusals (expire now s) c v

-- e is the refusal of the test at some place, which holds, and no test before it does
pub record First (l : List (Bool × Refusal)) (e : Refusal) : Type 0 where
  pub place : ℕ
  pub holds : (get_or l place (false, STATE)).0 ≡ true
  pub number : (get_or l place (false, STATE)).1 ≡ e
  pub before : (j : ℕ) → j < place → (get_or l j (false, STATE)).0 ≡ false

-- each number is above the one before it, the first above n
abbrev pub ascend : ℕ → List ℕ → Bool
ascend n [] = true
ascend n (m ∷ l) = ltb n m && ascend m l

-- BACKOFF (`backoff_waits`)

-- session n is live and open until a deadline
pub record OpenUntil (s : State) (n until : ℕ) : Type 0 where
  pub place : ℕ
  pub live : Session
  pub is : session_at s place ≡ session live
  pub number : live.number ≡ n
  pub life : live.life ≡ Life.Open until

-- "w is 0 if a sealed session blocks, else the latest blocking deadline less now, so from 1 to the lifetime of the blocking lease"
pub data Waits (t : State) (now k w : ℕ) : Type 0 where
  -- an I lease is on the key
  for_lease : (l : Lease) → lease_on t k ≡ some l → w + now ≡ l.until → Within 1 t.head.read_life w → Waits t now k w
  -- a sealed session has a row on it
  for_sealed : (n : ℕ) → HasRow t.rows n k → Sealed t n → w ≡ 0 → Waits t now k w
  -- each session with a row on it is open, and n ends last
  for_open : (n : ℕ) → HasRow t.rows n k → OpenUntil t n (w + now)
      → ((m : ℕ) → HasRow t.rows m k → (until : ℕ) × OpenUntil t m until × (until ≤ w + now))
      → Within 1 t.head.write_life w → Waits t now k w
