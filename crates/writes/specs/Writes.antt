-- A C line, a write of the register: rule 2, "The register writes a key only for a live sealed session with a row on that key", and the mark that rule 3 reads.
use Rattle.std.specs.Prelude.{ℕ, ◌≡◌, Bool, not, ◌&&◌, List, [], ltb, if◌then◌else◌}
use Rattle.machine.specs.Sizes.{session_count}
use Rattle.machine.specs.State.{Value, State, free_row, session_place, row_of}
use Rattle.machine.specs.Refusals.{sealed_in}
use Rattle.layout.specs.Layout.{decode}
use Rattle.layout.specs.WellFormed.{well_formed}
use Rattle.book.specs.Book.{with_registered, with_mark}
use Rattle.replies.specs.Replies.{WRITTEN}
use Rattle.rules.specs.Rules.{Said}

-- the register may write to the key k for the session n
unfoldable pub may_write : List ℕ → ℕ → ℕ → Bool
may_write x n k = well_formed x && (sealed_in (decode x) n && not (free_row (row_of (decode x) n k)))

-- that it has written for the session while it was live is marked at the session's place
unfoldable pub marked : List ℕ → List ℕ → ℕ → List ℕ
marked x b n = if well_formed x && ltb (session_place (decode x) n) session_count then with_mark b (session_place (decode x) n) n else b

-- C: the register writes the value v to the key k for the session n
unfoldable pub writes : List ℕ → List ℕ → ℕ → ℕ → Value → Said
writes x b n k v = record {
  word = WRITTEN;
  detail = 0;
  value = [];
  rule = if may_write x n k then 0 else 2;
  cache = x;
  book = with_registered (marked x b n) k v;
}

-- the rule of a write for session n to key k, and the book in which it is marked, in a state of the cache
pub record Writes (s : State) (b : List ℕ) (n k i r : ℕ) (b' : List ℕ) : Type 0 where
  pub rule : r ≡ (if sealed_in s n && not (free_row (row_of s n k)) then 0 else 2)
  pub book : b' ≡ with_mark b i n
