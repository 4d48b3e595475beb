-- A line of the rehearsal on the cache's bytes and the book: what is said of it, the number of the rule that it breaks, and both buffers after it.
-- 01: "Rule 1 is tested here against the register's value at the grant and at the FILL".
use Rattle.std.specs.Prelude.{ℕ, not, ◌&&◌, ◌||◌, List, [], eqb, if◌then◌else◌}
use Rattle.lent.specs.Bytes.{win}
use Rattle.lent.specs.Tables.{same}
use Rattle.machine.specs.Words.{word_of, detail_of, READY, HIT, LEASE, STORED, DONE, UNDONE}
use Rattle.machine.specs.State.{Value}
use Rattle.machine.specs.declared.Command.{Command}
use Rattle.machine.specs.declared.Command.TheVariants.{Begin, Get, Fill, Quar, Stage, Delta, Validate, Done, Undo, Evict, Tick}
use Rattle.startup.specs.Start.{Reply, start_of}
use Rattle.words.specs.Numbers.{place_of}
use Rattle.cache.specs.Run.{ran}
use Rattle.replies.specs.Replies.{UNREADABLE}
use Rattle.book.specs.Book.{with_started, registered, granted, with_granted}
use Rattle.risks.specs.Risks.{wrote_for, stale_for}

-- what is said of a line: its word by number, the number that goes with it and the value that is handed out, the rule broken or 0, and both buffers after it
pub record Said : Type 0 where
  pub word : ℕ
  pub detail : ℕ
  pub value : Value
  pub rule : ℕ
  pub cache : List ℕ
  pub book : List ℕ

-- "Any other line is UNREADABLE and changes nothing"
abbrev pub unreadable : List ℕ → List ℕ → Said
unreadable x b = record { word = UNREADABLE; detail = 0; value = []; rule = 0; cache = x; book = b }

-- an answer of the cache; a HIT's value stands in its bytes
abbrev pub answered : Reply → ℕ → List ℕ → Said
answered r rule b = record {
  word = word_of r.answer;
  detail = detail_of r.answer;
  value = if eqb (word_of r.answer) HIT then win r.bytes (place_of r.answer) (detail_of r.answer) else [];
  rule = rule;
  cache = r.bytes;
  book = b;
}

-- A: START
unfoldable pub begins : List ℕ → List ℕ → ℕ → ℕ → Said
begins x b read_life write_life = let r = start_of x read_life write_life in answered r 0 (if eqb (word_of r.answer) READY then with_started b else b)

-- the rule broken by a command that was answered with the word w, in the cache's bytes and the book before it
abbrev pub rule_of : List ℕ → List ℕ → Command → Value → ℕ → ℕ
rule_of x b Begin v w = 0
rule_of x b (Get n k) v w = 0
rule_of x b (Fill t k) v w = if eqb w STORED && not (same v (registered b k) || same v (granted b k)) then 1 else 0
rule_of x b (Quar n k d) v w = 0
rule_of x b (Stage n i k) v w = 0
rule_of x b (Delta n i k o) v w = 0
rule_of x b (Validate n m) v w = 0
rule_of x b (Done n) v w = if eqb w DONE && stale_for x b n then 4 else 0
rule_of x b (Undo n) v w = if eqb w UNDONE && wrote_for x b n then 3 else 0
rule_of x b (Evict k) v w = 0
rule_of x b Tick v w = 0

-- a grant is noted with what the register then holds
abbrev pub noted : List ℕ → Command → ℕ → List ℕ
noted b Begin w = b
noted b (Get n k) w = if eqb w LEASE then with_granted b k (registered b k) else b
noted b (Fill t k) w = b
noted b (Quar n k d) w = b
noted b (Stage n i k) w = b
noted b (Delta n i k o) w = b
noted b (Validate n m) w = b
noted b (Done n) w = b
noted b (Undo n) w = b
noted b (Evict k) w = b
noted b Tick w = b

-- any other letter: the command c at its time, with its value
unfoldable pub commands : List ℕ → List ℕ → ℕ → Command → Value → Said
commands x b now c v = let r = ran x now c v in answered r (rule_of x b c v (word_of r.answer)) (noted b c (word_of r.answer))
