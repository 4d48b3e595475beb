-- START on a lent buffer. It ignores what the buffer held: of STATE only the length counts.
use Rattle.machine.specs.declared.Refusal.{Refusal}
use Rattle.std.specs.Prelude.{not, List, ◌∷◌, ℕ, eqb, length}
use Rattle.std.proofs.Math.Option.{Option, none, some}
use Rattle.machine.specs.Sizes.{state_size}
use Rattle.machine.specs.Tables.{first}
use Rattle.machine.specs.Refusals.{start_refusals}
use Rattle.machine.specs.Effects.{Outcome}
use Rattle.machine.specs.Step.{start}
use Rattle.machine.specs.Words.{STATE}
use Rattle.machine.specs.declared.Answer.{Answer}
use Rattle.layout.specs.Layout.{encode, decode}

-- an answer, and each byte of the lent buffer after it
pub record Reply : Type 0 where
  pub answer : Answer
  pub bytes : List ℕ

-- a refusal keeps every byte
abbrev pub replied : List ℕ → Option Refusal → Outcome → Reply
replied b none r = record { answer = r.answer; bytes = encode r.after }
replied b (some e) r = record { answer = Answer.Refused e; bytes = b }

unfoldable pub start_refusal : List ℕ → ℕ → ℕ → Option Refusal
start_refusal b read_life write_life = first ((not (eqb (length b) state_size), STATE) ∷ start_refusals read_life write_life)

unfoldable pub start_of : List ℕ → ℕ → ℕ → Reply
start_of b read_life write_life = replied b (start_refusal b read_life write_life) (start (decode b) read_life write_life)
