-- One command, START and SHOW: refused with nothing kept, or the effect after expiry, at its time.
use Rattle.std.specs.Prelude.{[], ℕ, length}
use Rattle.std.proofs.Math.Option.{Option, none, some}
use Rattle.machine.specs.Tables.{first}
use Rattle.machine.specs.State.{Value, State, fresh}
use Rattle.machine.specs.Expiry.{with_clock, expire}
use Rattle.machine.specs.Refusals.{Sight, sight, refusal, start_refusals, show_refusals}
use Rattle.machine.specs.Effects.{Outcome, told, effect}
use Rattle.machine.specs.declared.Refusal.{Refusal}
use Rattle.machine.specs.declared.Answer.{Answer}
use Rattle.machine.specs.declared.Command.{Command}

-- "A refused command keeps nothing of this, not even the clock"
unfoldable pub settled : State → ℕ → Option Refusal → Outcome → Outcome
settled s now none r = record { answer = r.answer; handed = r.handed; after = with_clock r.after now }
settled s now (some e) r = told (Answer.Refused e) s

unfoldable pub step : State → ℕ → Command → Value → Outcome
step s now c v = let s' = expire now s in settled s now (refusal s' now c v) (effect s' now c v)

-- START: the fresh state, or its refusal
abbrev pub started : ℕ → ℕ → Option Refusal → State → Outcome
started read_life write_life none s = told Answer.Ready (fresh read_life write_life)
started read_life write_life (some e) s = told (Answer.Refused e) s

unfoldable pub start : State → ℕ → ℕ → Outcome
start s read_life write_life = started read_life write_life (first (start_refusals read_life write_life)) s

-- SHOW: its answer, and the stretch of the lent state that it hands back, by its place and its bytes
pub record Shown : Type 0 where
  pub answer : Answer
  pub at : ℕ
  pub value : Value

abbrev pub seen : Option Sight → Shown
seen none = record { answer = Answer.None; at = 0; value = [] }
seen (some x) = record { answer = Answer.Value (length x.value); at = x.at; value = x.value }

abbrev pub showing : Option Refusal → Option Sight → Shown
showing none o = seen o
showing (some e) o = record { answer = Answer.Refused e; at = 0; value = [] }

unfoldable pub show : State → ℕ → ℕ → Shown
show s n k = showing (first (show_refusals s n k)) (sight s n k)
