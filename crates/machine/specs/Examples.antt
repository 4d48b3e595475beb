-- 01, "Either side of the line": P1 to P12, each as commands that come first, the commands of the example, and what they are told.
use Rattle.std.specs.Prelude.{List, [], ◌∷◌, ◌++◌, ℕ, replicate}
use Rattle.machine.specs.Words.{CLOCK, ARG, NO-SESSION, AHEAD, FULL, INVALIDATE, REFRESH, INCREMENTAL, APPEND, INCREMENT, DECREMENT}
use Rattle.machine.specs.State.{Value, State, fresh}
use Rattle.machine.specs.Step.{step}
use Rattle.machine.specs.Sizes.{session_count, staged_at}
use Rattle.machine.specs.declared.Answer.{Answer}
use Rattle.machine.specs.declared.Command.{Command}
use Rattle.machine.specs.declared.Command.TheVariants.{Begin, Get, Fill, Quar, Stage, Delta, Validate, Undo, Tick}

-- a command at a time, with its value
pub record Line : Type 0 where
  pub at : ℕ
  pub command : Command
  pub value : Value

-- an answer with the value that goes with it
pub record Told : Type 0 where
  pub answer : Answer
  pub handed : Value

-- a command without a value, one with a value; an answer without a value
abbrev pub bare : ℕ → Command → Line
bare t c = record { at = t; command = c; value = [] }

abbrev pub with : ℕ → Command → Value → Line
with t c v = record { at = t; command = c; value = v }

abbrev pub says : Answer → Told
says a = record { answer = a; handed = [] }

abbrev pub after : State → List Line → State
after s [] = s
after s (x ∷ l) = after (step s x.at x.command x.value).after l

abbrev pub answers : State → List Line → List Told
answers s [] = []
answers s (x ∷ l) = let r = step s x.at x.command x.value in record { answer = r.answer; handed = r.handed } ∷ answers r.after l

pub record Example : Type 0 where
  pub first : List Line
  pub then : List Line
  pub gives : List Told

-- the lifetimes that the examples start with, in milliseconds
abbrev pub example_read_life : ℕ
example_read_life = 1000

abbrev pub example_write_life : ℕ
example_write_life = 5000

-- what the example's commands are told, from START 1000 5000
abbrev pub answered : Example → List Told
answered e = answers (after (fresh example_read_life example_write_life) e.first) e.then

-- the value v is cached on key 7, and session 1 has a row of kind 3 on it
abbrev holding : Value → List Line
holding v = bare 0 (Get 0 7) ∷ with 0 (Fill 1 7) v ∷ bare 0 Begin ∷ bare 0 (Quar 1 7 INCREMENTAL) ∷ []

-- a DELTA of session 1 on key 7, and what is then read
abbrev counted : Value → ℕ → Value → Answer → Told → Example
counted v operation x a r = record { first = holding v; then = with 0 (Delta 1 0 7 operation) x ∷ bare 0 (Get 1 7) ∷ []; gives = says a ∷ r ∷ [] }

-- what stands staged in the lowest row
abbrev staged_hit : ℕ → Value → Told
staged_hit size v = record { answer = Answer.Hit (staged_at 0) size; handed = v }

-- the largest count, 18446744073709551615, and one more
abbrev largest : Value
largest = 49 ∷ 56 ∷ 52 ∷ 52 ∷ 54 ∷ 55 ∷ 52 ∷ 52 ∷ 48 ∷ 55 ∷ 51 ∷ 55 ∷ 48 ∷ 57 ∷ 53 ∷ 53 ∷ 49 ∷ 54 ∷ 49 ∷ 53 ∷ []

abbrev larger : Value
larger = 49 ∷ 56 ∷ 52 ∷ 52 ∷ 54 ∷ 55 ∷ 52 ∷ 52 ∷ 48 ∷ 55 ∷ 51 ∷ 55 ∷ 48 ∷ 57 ∷ 53 ∷ 53 ∷ 49 ∷ 54 ∷ 49 ∷ 54 ∷ []

abbrev p1 : Example
p1 = record {
  first = replicate session_count (bare 0 Begin);
  then = bare 0 Begin ∷ bare 0 (Undo 5) ∷ bare 0 Begin ∷ [];
  gives = says (Answer.Refused FULL) ∷ says Answer.Undone ∷ says (Answer.Session 129) ∷ [];
}

abbrev p2 : Example
p2 = record { first = bare 0 Begin ∷ []; then = bare 4999 (Validate 1 0) ∷ []; gives = says Answer.Validated ∷ [] }

abbrev p2_late : Example
p2_late = record { first = bare 0 Begin ∷ []; then = bare 5000 (Validate 1 0) ∷ []; gives = says (Answer.Refused NO-SESSION) ∷ [] }

abbrev p3 : Example
p3 = record { first = []; then = bare 0 (Get 0 255) ∷ bare 0 (Get 0 256) ∷ []; gives = says (Answer.Lease 1) ∷ says (Answer.Refused ARG) ∷ [] }

abbrev p4 : Example
p4 = record { first = bare 9 Tick ∷ []; then = bare 9 Tick ∷ bare 8 Tick ∷ []; gives = says Answer.Ticked ∷ says (Answer.Refused CLOCK) ∷ [] }

abbrev p5 : Example
p5 = counted largest INCREMENT (49 ∷ []) Answer.Staged (staged_hit 1 (48 ∷ []))

abbrev p6 : Example
p6 = counted (53 ∷ []) DECREMENT (57 ∷ []) Answer.Staged (staged_hit 1 (48 ∷ []))

abbrev p7 : Example
p7 = counted (48 ∷ 48 ∷ 55 ∷ []) INCREMENT (49 ∷ []) Answer.Staged (staged_hit 1 (56 ∷ []))

abbrev p8 : Example
p8 = counted larger INCREMENT (49 ∷ []) Answer.Dropped (says Answer.Ask)

abbrev p9 : Example
p9 = counted (replicate 60 65) APPEND (replicate 4 66) Answer.Staged (staged_hit 64 (replicate 60 65 ++ replicate 4 66))

abbrev p9-long : Example
p9-long = counted (replicate 60 65) APPEND (replicate 5 66) Answer.Dropped (says Answer.Ask)

abbrev p10 : Example
p10 = record {
  first = bare 0 Begin ∷ bare 0 Begin ∷ bare 0 Begin ∷ [];
  then = bare 0 (Quar 1 7 INVALIDATE) ∷ bare 0 (Quar 2 7 INVALIDATE) ∷ bare 0 (Quar 3 7 REFRESH) ∷ [];
  gives = says Answer.Granted ∷ says Answer.Granted ∷ says Answer.Aborted ∷ [];
}

abbrev p11 : Example
p11 = record {
  first = bare 0 Begin ∷ bare 0 (Quar 1 7 REFRESH) ∷ [];
  then = bare 0 (Stage 1 0 7) ∷ bare 0 (Stage 1 0 7) ∷ bare 0 (Stage 1 2 7) ∷ bare 0 (Validate 1 2) ∷ [];
  gives = says Answer.Staged ∷ says Answer.Repeated ∷ says (Answer.Refused AHEAD) ∷ says Answer.Lost ∷ [];
}

abbrev p12 : Example
p12 = record { first = bare 0 (Get 0 7) ∷ []; then = with 0 (Fill 1 7) (1 ∷ []) ∷ with 0 (Fill 1 7) (1 ∷ []) ∷ []; gives = says Answer.Stored ∷ says Answer.Ignored ∷ [] }

abbrev pub examples : List Example
examples = p1 ∷ p2 ∷ p2_late ∷ p3 ∷ p4 ∷ p5 ∷ p6 ∷ p7 ∷ p8 ∷ p9 ∷ p9-long ∷ p10 ∷ p11 ∷ p12 ∷ []
