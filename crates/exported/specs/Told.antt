-- What the library gives to a caller that has no enum: an answer as numbers, by the definitions of its word, of what goes with it (the
-- machine's `Words`) and of a HIT's place (`words`).
use Rattle.std.specs.Prelude.{ℕ, ◌≡◌, List, [], ◌∷◌, length}
use Rattle.machine.specs.Words.{word_of, detail_of}
use Rattle.machine.specs.Step.{Shown}
use Rattle.machine.specs.declared.Answer.{Answer}
use Rattle.startup.specs.Start.{Reply}
use Rattle.words.specs.Numbers.{place_of}

-- raised with each change of a name, a number or a parameter of the library
abbrev pub version : ℕ
version = 1

-- the word is returned; what goes with it and a HIT's place are told
pub record Said (a : Answer) (r : ℕ) (told : List ℕ) : Type 0 where
  pub word : r ≡ word_of a
  pub numbers : told ≡ detail_of a ∷ place_of a ∷ []

-- the answer of a reply, and its bytes in the lent state
pub record Replied (f : Reply) (r : ℕ) (state told : List ℕ) : Type 0 where
  pub said : Said f.answer r told
  pub bytes : state ≡ f.bytes

-- length and place of the stretch that SHOW hands back, as a HIT's are told
abbrev pub stretch_told : Shown → List ℕ
stretch_told x = length x.value ∷ x.at ∷ []
