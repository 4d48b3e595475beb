-- Demand 3 over the lent bytes: a world whose cache is a buffer, on which each command is run by the cache's contract.
use Rattle.std.specs.Prelude.{ℕ, Bool, false, List, [], ◌∷◌}
use Rattle.machine.specs.State.{Value}
use Rattle.machine.specs.World.{Event, command, write, World, commanded, written, Kept}
use Rattle.layout.specs.Layout.{decode}
use Rattle.startup.specs.Start.{Reply}
use Rattle.cache.specs.Run.{ran}

-- the buffer, and the register with what the rules and the promise speak of
pub record ByteWorld : Type 0 where
  pub bytes : List ℕ
  pub register : ℕ → Value
  pub began : ℕ → Value
  pub since : ℕ → ℕ → List Value
  pub wrote : ℕ → Bool

-- the world whose cache is what the buffer says
abbrev pub world_of : ByteWorld → World
world_of w = record { state = decode w.bytes; register = w.register; began = w.began; since = w.since; wrote = w.wrote }

-- a buffer in place of a world's cache
abbrev pub on_bytes : List ℕ → World → ByteWorld
on_bytes b w = record { bytes = b; register = w.register; began = w.began; since = w.since; wrote = w.wrote }

-- a buffer beside the register, which is empty at first
abbrev pub begun_on : List ℕ → ByteWorld
begun_on b = record { bytes = b; register = λ k. []; began = λ k. []; since = λ t k. []; wrote = λ n. false }

abbrev pub after_reply : ByteWorld → Reply → ByteWorld
after_reply w r = on_bytes r.bytes (commanded (world_of w) (record { answer = r.answer; handed = []; after = decode r.bytes }))

abbrev pub next_bytes : ByteWorld → Event → ByteWorld
next_bytes w (command now c v) = after_reply w (ran w.bytes now c v)
next_bytes w (write n k v) = on_bytes w.bytes (written (world_of w) n k v)

abbrev pub run_bytes : ByteWorld → List Event → ByteWorld
run_bytes w [] = w
run_bytes w (e ∷ l) = run_bytes (next_bytes w e) l

-- the clients keep the rules at each event, on what the buffer then says
abbrev pub AllKeptBytes : ByteWorld → List Event → Type 0
AllKeptBytes w [] = Unit {0}
AllKeptBytes w (e ∷ l) = Kept (world_of w) e × AllKeptBytes (next_bytes w e) l
