-- The rehearsal's run: the cache's bytes and the book, through the lines of a run after START, and the column of the rules that they break.
use Rattle.std.specs.Prelude.{◌≡◌, true, List, [], ◌∷◌, ℕ, ◌≤◌, ◌<◌, length}
use Rattle.machine.specs.Sizes.{key_count, session_count, value_max}
use Rattle.machine.specs.World.{Event, command, write, World, Consistent}
use Rattle.layout.specs.Layout.{decode}
use Rattle.layout.specs.WellFormed.{well_formed}
use Rattle.book.specs.Memory.{Memory}
use Rattle.book.specs.Book.{book_size, registered, mark, counted}
use Rattle.rules.specs.Rules.{Said, begins, commands}
use Rattle.writes.specs.Writes.{writes}

-- a line's act: any letter but A and C, or C
abbrev pub act_of : Memory → Event → Said
act_of p (command now c v) = commands p.cache p.book now c v
act_of p (write n k v) = writes p.cache p.book n k v

-- the rule that is printed
abbrev pub rule_at : Memory → Event → ℕ
rule_at p e = (act_of p e).rule

-- both buffers after a line, which is counted
abbrev pub left : Said → Memory
left r = record { cache = r.cache; book = counted r.book r.rule }

abbrev pub after : Memory → Event → Memory
after p e = left (act_of p e)

abbrev pub through : Memory → List Event → Memory
through p [] = p
through p (e ∷ es) = through (after p e) es

abbrev pub column : Memory → List Event → List ℕ
column p [] = []
column p (e ∷ es) = rule_at p e ∷ column (after p e) es

-- after an A line
abbrev pub started_memory : List ℕ → List ℕ → ℕ → ℕ → Memory
started_memory x b read_life write_life = left (begins x b read_life write_life)

-- a new book, in which lines are at most counted: no value is registered, and no session is marked
pub record NewBook (b : List ℕ) : Type 0 where
  pub size : length b ≡ book_size
  pub empty : (k : ℕ) → registered b k ≡ []
  pub unmarked : (i : ℕ) → i < session_count → mark b i ≡ 0

-- what a C line that is readable carries: a key, and a value of 0 to 64 bytes
abbrev pub Readable : Event → Type 0
Readable (command now c v) = Unit {0}
Readable (write n k v) = (k < key_count) × (length v ≤ value_max)

abbrev pub AllReadable : List Event → Type 0
AllReadable [] = Unit {0}
AllReadable (e ∷ es) = Readable e × AllReadable es

-- demand 3 at one moment: the world is consistent, its cache is what the well-formed bytes say, and its register what the book says
pub record Promised (p : Memory) (w : World) : Type 0 where
  pub consistent : Consistent w
  pub formed : well_formed p.cache ≡ true
  pub cache : decode p.cache ≡ w.state
  pub register : (k : ℕ) → registered p.book k ≡ w.register k
