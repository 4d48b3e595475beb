-- Demand 3 over bytes is not empty: on every buffer of 65,536 bytes START answers READY, and the run that the machine computes to keep the rules
-- (`machine`, `Witness`) keeps them on the bytes, which follow the machine event by event.
use mathlib.Core.Path.{◌≡◌, refl, sym, ap, subst}
use mathlib.Core.Bool.{Bool, true, ◌&&◌}
use mathlib.Core.List.{List, [], ◌∷◌}
use Prim.Native.Nat.{ℕ, zero, suc}
use native.Mathlib.Omega.{arith}
use lib.Dec.{ltb}
use borrow.Author.Tests.{ltb-true}
use lib.ListN.{length, take, drop, take-append-drop}
use Rattle.lent.specs.Bytes.{Bytes}
use Rattle.lent.proofs.Choices.{and_yes}
use Rattle.machine.specs.Sizes.{state_size}
use Rattle.machine.specs.State.{Value}
use Rattle.machine.specs.World.{Event, command, write, World, AllKept, Consistent, AllBytes}
use Rattle.machine.specs.Examples.{example_read_life, example_write_life}
use Rattle.machine.specs.Witness.{events}
use Rattle.machine.specs.declared.Answer.{Answer}
use Rattle.machine.proofs.Witness.{witness_kept}
use Rattle.layout.specs.WellFormed.{well_formed}
use Rattle.startup.specs.Start.{Reply, start_of}
use Rattle.startup.proofs.Started.{started-ready}
use Rattle.startup.proofs.Sound.{ready_formed, world_fresh}
use Rattle.promises.specs.Bytes.{ByteWorld, world_of, begun_on, next_bytes, run_bytes, AllKeptBytes}
use Rattle.promises.proofs.Follow.{next_formed, next_follows, demand_3_bytes}

-- rules kept in the machine's run are kept on bytes that say its state
kept_bytes : (w : ByteWorld) (es : List Event) → AllBytes es → well_formed w.bytes ≡ true → AllKept (world_of w) es → AllKeptBytes w es
kept_bytes w [] x f h = tt
kept_bytes w (e ∷ es) x f h = (h.0, kept_bytes (next_bytes w e) es x.1 (next_formed w e x.0 f) (rw (next_follows w e x.0 f) h.1))

pub witness_ready : (b : List ℕ) → length b ≡ state_size → (start_of b example_read_life example_write_life).answer ≡ Answer.Ready
witness_ready b size = ap (λ (r : Reply). r.answer) (started-ready b example_read_life example_write_life size refl refl)

-- that the values of a run are bytes is tested

abbrev pub byte_test : Value → Bool
byte_test [] = true
byte_test (x ∷ v) = ltb x 256 && byte_test v

pub byte_test_lem : (v : Value) → byte_test v ≡ true → Bytes v
byte_test_lem [] e i = omega arith
byte_test_lem (x ∷ v) e zero = ltb-true x 256 (and_yes (ltb x 256) (byte_test v) e).0
byte_test_lem (x ∷ v) e (suc i) = byte_test_lem v (and_yes (ltb x 256) (byte_test v) e).1 i

abbrev pub values_test : List Event → Bool
values_test [] = true
values_test (command now c v ∷ es) = byte_test v && values_test es
values_test (write n k v ∷ es) = values_test es

values_test_lem : (es : List Event) → values_test es ≡ true → AllBytes es
values_test_lem [] e = tt
values_test_lem (command now c v ∷ es) e = (byte_test_lem v (and_yes (byte_test v) (values_test es) e).0, values_test_lem es (and_yes (byte_test v) (values_test es) e).1)
values_test_lem (write n k v ∷ es) e = (tt, values_test_lem es e)

witness_values : AllBytes events
witness_values = values_test_lem events refl

module _ (b : List ℕ) (size : length b ≡ state_size) where
  pub witness_kept_bytes : AllKeptBytes (begun_on (start_of b example_read_life example_write_life).bytes) events
  witness_kept_bytes =
      let ready = witness_ready b size in
      kept_bytes (begun_on (start_of b example_read_life example_write_life).bytes) events witness_values (ready_formed b example_read_life example_write_life ready)
      (subst (λ (w : World). AllKept w events) (sym (world_fresh b example_read_life example_write_life ready)) witness_kept)

  -- at each moment of it
  pub witness_consistent_bytes : (i : ℕ) → Consistent (world_of (run_bytes (begun_on (start_of b example_read_life example_write_life).bytes) (take i events)))
  witness_consistent_bytes i =
      demand_3_bytes b example_read_life example_write_life (witness_ready b size) (take i events) (drop i events)
      (rw (take-append-drop i events) witness_values) (rw (take-append-drop i events) witness_kept_bytes)
