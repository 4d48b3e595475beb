-- What the functions of the commands promise: the machine's outcome on a state on which nothing lapses, said of the lent bytes.
use Rattle.machine.specs.declared.Refusal.{Refusal}
use Rattle.std.specs.Prelude.{ℕ, ◌≡◌, Bool, true, List, eqb}
use Rattle.std.proofs.Math.Option.{Option, none, some}
use Rattle.machine.specs.Tables.{first}
use Rattle.machine.specs.Words.{word_of}
use Rattle.machine.specs.State.{Value, State}
use Rattle.machine.specs.Sound.{sound}
use Rattle.machine.specs.Refusals.{refusals, refusal}
use Rattle.machine.specs.Effects.{Outcome, told, effect}
use Rattle.machine.specs.Step.{settled}
use Rattle.machine.specs.declared.Answer.{Answer}
use Rattle.machine.specs.declared.Command.{Command}
use Rattle.layout.specs.Holds.{Holds}

-- a refusal keeps the state
abbrev pub unless : Option Refusal → State → Outcome → Outcome
unless none s r = r
unless (some e) s r = told (Answer.Refused e) s

-- a command's refusals and effect, the clock aside
unfoldable pub tried : State → ℕ → Command → Value → Outcome
tried s now c v = unless (first (refusals s c v)) s (effect s now c v)

-- and with the clock: the whole step, where nothing lapses
unfoldable pub acted : State → ℕ → Command → Value → Outcome
acted s now c v = settled s now (refusal s now c v) (effect s now c v)

abbrev pub is_refused : Answer → Bool
is_refused a = eqb (word_of a) 0

-- the answer a and the bytes b are those of the outcome o
pub record Gives (o : Outcome) (a : Answer) (b : List ℕ) : Type 0 where
  pub answer : a ≡ o.answer
  pub holds : Holds b o.after

-- of every sound state that the bytes at entry hold: what is answered and held at exit is f of it
abbrev pub Does : List ℕ → (State → Outcome) → Answer → List ℕ → Type 0
Does b f a b' = (s : State) → Holds b s → sound s ≡ true → Gives (f s) a b'
