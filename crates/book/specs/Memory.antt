-- What a line of the rehearsal changes: the cache's bytes and the book.
use Rattle.std.specs.Prelude.{ℕ, List}

pub record Memory : Type 0 where
  pub cache : List ℕ
  pub book : List ℕ

abbrev pub memory_of : List ℕ → List ℕ → Memory
memory_of cache book = record { cache = cache; book = book }
