-- Rule 1 in its two-value form, 01, "The rehearsal": "tested here against the register's value at the grant and at the FILL".
-- It is rule 1 in the same world, of which only these two of the values held since a grant are remembered.
use Rattle.std.specs.Prelude.{List, [], ◌∷◌, ℕ}
use Rattle.machine.specs.State.{Value}
use Rattle.machine.specs.World.{Event, command, write, World, next, Kept}
use Rattle.machine.specs.Test.{broken}

-- the last of a list, whose newest stand first; v where it is empty
abbrev pub oldest : Value → List Value → Value
oldest v [] = v
oldest v (x ∷ l) = oldest x l

-- since a token's grant: what the register holds now, and what it held at the grant
abbrev pub two_values : World → World
two_values w = record {
  state = w.state;
  register = w.register;
  began = w.began;
  since = λ t k. w.register k ∷ oldest (w.register k) (w.since t k) ∷ [];
  wrote = w.wrote;
}

-- the rule that an event breaks by this form, 0 for none; and the rules kept
abbrev pub broken_two : World → Event → ℕ
broken_two w e = broken (two_values w) e

abbrev pub verdicts_two : World → List Event → List ℕ
verdicts_two w [] = []
verdicts_two w (e ∷ es) = broken_two w e ∷ verdicts_two (next w e) es

abbrev pub KeptTwo : World → Event → Type 0
KeptTwo w e = Kept (two_values w) e

abbrev pub AllKeptTwo : World → List Event → Type 0
AllKeptTwo w [] = Unit {0}
AllKeptTwo w (e ∷ es) = KeptTwo w e × AllKeptTwo (next w e) es

-- rule 2 kept by each write
abbrev pub WriteKept : World → Event → Type 0
WriteKept w (command now c v) = Unit {0}
WriteKept w (write n k v) = Kept w (write n k v)

abbrev pub WritesKept : World → List Event → Type 0
WritesKept w [] = Unit {0}
WritesKept w (e ∷ es) = WriteKept w e × WritesKept (next w e) es
