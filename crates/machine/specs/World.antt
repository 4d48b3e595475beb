-- Demand 3: a run beside a register, the four rules of the clients, and what they keep.
use Rattle.std.specs.Prelude.{◌≡◌, Bool, true, false, not, ◌&&◌, ◌||◌, ◌⊎◌, ℕ, eqb, get_or, if◌then◌else◌}
use mathlib.Core.List.{List, [], ◌∷◌, Memᴰ}
use Rattle.std.proofs.Math.Option.{none, some}
use Rattle.lent.specs.Bytes.{Bytes}
use Rattle.machine.specs.Tables.{any}
use Rattle.machine.specs.Words.{word_of, detail_of, LEASE}
use Rattle.machine.specs.State.{Value, session, Staged, staged, Row, no_row, row, State, fresh, on, row_of, cached, session_at, row_at}
use Rattle.machine.specs.Expiry.{expire}
use Rattle.machine.specs.Refusals.{not_live}
use Rattle.machine.specs.Effects.{Outcome}
use Rattle.machine.specs.Step.{step, show}
use Rattle.machine.specs.declared.Life.{Life}
use Rattle.machine.specs.declared.Session.{Session}
use Rattle.machine.specs.declared.Answer.{Answer}
use Rattle.machine.specs.declared.Command.{Command}
use Rattle.machine.specs.declared.Command.TheVariants.{Begin, Get, Fill, Quar, Stage, Delta, Validate, Done, Undo, Evict, Tick}

-- a command with its value at a time, or the register's write for a session to a key
pub data Event : Type 0 where
  command : ℕ → Command → Value → Event
  write : ℕ → ℕ → Value → Event

-- the values that commands carry are lists of bytes
abbrev pub EventBytes : Event → Type 0
EventBytes (command now c v) = Bytes v
EventBytes (write n k v) = Unit {0}

abbrev pub AllBytes : List Event → Type 0
AllBytes [] = Unit {0}
AllBytes (e ∷ l) = EventBytes e × AllBytes l

-- the cache and the register, and what the rules and the promise speak of:
-- what the register held for a key when its unbroken quarantine began; by token and key, what it has held since the
-- token's grant; and whether it has written for a session while it was live
pub record World : Type 0 where
  pub state : State
  pub register : ℕ → Value
  pub began : ℕ → Value
  pub since : ℕ → ℕ → List Value
  pub wrote : ℕ → Bool

-- some Q row is on the key
abbrev pub quarantined : State → ℕ → Bool
quarantined s k = any (on k) s.rows

-- after START: "The register holds one value of 0 to 64 bytes per key, empty at first"
abbrev pub fresh_world : ℕ → ℕ → World
fresh_world read_life write_life = record { state = fresh read_life write_life; register = λ k. []; began = λ k. []; since = λ t k. []; wrote = λ n. false }

-- a grant of token t begins its record with what the register holds
abbrev pub since_grant : (ℕ → Value) → (ℕ → ℕ → List Value) → Answer → ℕ → ℕ → List Value
since_grant register since a = λ t k. if eqb (word_of a) LEASE && eqb (detail_of a) t then register k ∷ [] else since t k

-- "A quarantine is unbroken as long as after every step some Q row is on the key"
unfoldable pub commanded : World → Outcome → World
commanded w r = record {
  state = r.after;
  register = w.register;
  began = λ k. if quarantined r.after k && not (quarantined w.state k) then w.register k else w.began k;
  since = since_grant w.register w.since r.answer;
  wrote = w.wrote;
}

unfoldable pub written : World → ℕ → ℕ → Value → World
written w n k v = record {
  state = w.state;
  register = λ j. if eqb j k then v else w.register j;
  began = w.began;
  since = λ t j. if eqb j k then v ∷ w.since t j else w.since t j;
  wrote = λ m. eqb m n && not (not_live w.state n) || w.wrote m;
}

abbrev pub next : World → Event → World
next w (command now c v) = commanded w (step w.state now c v)
next w (write n k v) = written w n k v

abbrev pub run : World → List Event → World
run w [] = w
run w (e ∷ l) = run (next w e) l

-- The clients' four rules

-- session n has a row on key k; n is live and sealed
pub record HasRow (rows : List Row) (n k : ℕ) : Type 0 where
  pub place : ℕ
  pub kind : ℕ
  pub what : Staged
  pub is : get_or rows place no_row ≡ row n k kind what

pub record Sealed (s : State) (n : ℕ) : Type 0 where
  pub place : ℕ
  pub live : Session
  pub is : session_at s place ≡ session live
  pub number : live.number ≡ n
  pub life : live.life ≡ Life.Sealed

-- 1: "A FILL that is STORED carries a value that the register held for that key at some moment from the token's grant to this FILL"
-- 3: "UNDO isn't accepted for a session after the register has written for it while it was live"
-- 4: "When DONE is accepted, each value it caches is the one that the register then holds"
-- of a command answered a, in the world after its expiry
abbrev pub Rules : World → Command → Value → Answer → Type 0
Rules w Begin v a = Unit {0}
Rules w (Get n k) v a = Unit {0}
Rules w (Fill t k) v a = a ≡ Answer.Stored → Memᴰ v (w.since t k)
Rules w (Quar n k d) v a = Unit {0}
Rules w (Stage n i k) v a = Unit {0}
Rules w (Delta n i k o) v a = Unit {0}
Rules w (Validate n m) v a = Unit {0}
Rules w (Done n) v a = a ≡ Answer.Done → (i k d : ℕ) (u : Value) → row_at w.state i ≡ row n k d (staged u) → u ≡ w.register k
Rules w (Undo n) v a = a ≡ Answer.Undone → w.wrote n ≡ false
Rules w (Evict k) v a = Unit {0}
Rules w Tick v a = Unit {0}

abbrev pub expired : World → ℕ → World
expired w now = record { state = expire now w.state; register = w.register; began = w.began; since = w.since; wrote = w.wrote }

-- 2: "The register writes a key only for a live sealed session with a row on that key"
abbrev pub Kept : World → Event → Type 0
Kept w (command now c v) = Rules (expired w now) c v (step w.state now c v).answer
Kept w (write n k v) = Sealed w.state n × HasRow w.state.rows n k

abbrev pub AllKept : World → List Event → Type 0
AllKept w [] = Unit {0}
AllKept w (e ∷ l) = Kept w e × AllKept (next w e) l

-- The promise, at one moment

pub record Consistent (w : World) : Type 0 where
  -- a key with no quarantine is absent or holds what the register holds
  pub unquarantined : (k : ℕ) → quarantined w.state k ≡ false → (cached w.state k ≡ none) ⊎ (cached w.state k ≡ some (w.register k))
  -- a value that a GET hands to anyone without a row on a key that is then quarantined is what the register held when that unbroken quarantine began
  pub handed : (now n k at size : ℕ) (v : Value) → (step w.state now (Get n k) v).answer ≡ Answer.Hit at size
      → quarantined (next w (command now (Get n k) v)).state k ≡ true → row_of (next w (command now (Get n k) v)).state n k ≡ no_row
      → (step w.state now (Get n k) v).handed ≡ (next w (command now (Get n k) v)).began k
  -- and so is one that SHOW gives
  pub shown : (n k size : ℕ) → (show w.state n k).answer ≡ Answer.Value size → quarantined w.state k ≡ true → row_of w.state n k ≡ no_row → (show w.state n k).value ≡ w.began k
