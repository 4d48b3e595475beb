-- What the acts hand back, tied to the definition of what is said of a line.
use Rattle.std.specs.Prelude.{ℕ, ◌+◌, ◌≤◌, ◌≡◌, List}
use Rattle.lent.specs.Bytes.{win}
use Rattle.machine.specs.Sizes.{state_size, value_max}
use Rattle.machine.specs.Words.{HIT}
use Rattle.machine.specs.declared.Answer.{Answer}
use Rattle.words.specs.Numbers.{numbers_of}
use Rattle.words.specs.declared.Numbers.{Numbers}
use Rattle.rules.specs.Rules.{Said}
use Rattle.rules.specs.declared.Said.{Said as Told}

-- an answer by its numbers, and the rule broken
abbrev pub told : Numbers → ℕ → Told
told n rule = record { word = n.word; detail = n.detail; at = n.place; rule = rule }

abbrev pub told_of : Answer → ℕ → Told
told_of a rule = told (numbers_of a) rule

-- r and both buffers after the line are what is said of it; a value that is handed out stands in the cache at the place that is told, within its bytes
pub record Says (s : Said) (at : ℕ) (r : Told) (x b : List ℕ) : Type 0 where
  pub word : r.word ≡ s.word
  pub detail : r.detail ≡ s.detail
  pub place : r.at ≡ at
  pub rule : r.rule ≡ s.rule
  pub cache : x ≡ s.cache
  pub book : b ≡ s.book
  pub value : r.word ≡ HIT → win x r.at r.detail ≡ s.value
  pub inside : r.word ≡ HIT → r.at + r.detail ≤ state_size
  pub short : r.word ≡ HIT → r.detail ≤ value_max
