-- The conditions that join records, as tests of the bytes where they lie.
use Rattle.std.specs.Prelude.{ℕ, ◌+◌, ◌*◌, ◌-◌, ◌/◌, ◌%◌, ◌^◌, ◌≤◌, ◌<◌, ◌≡◌, Option, Some, None, Bool, true, false, not, ◌&&◌, List, length, get_or, set, eqb, if◌then◌else◌}
use Rattle.joins.specs.Bits.{word_bits, has_bit, with_bit}
use Rattle.lent.specs.Bytes.{le32}
use Rattle.lent.specs.Tables.{every, some, first}
use Rattle.order.specs.Order.{side, item}
use Rattle.machine.specs.Sound.{new_at, distinct}
use Rattle.machine.specs.Words.{INVALIDATE}
use Rattle.machine.specs.Sizes.{key_count, keys_from, key_width, rows_from, row_width, session_count, sessions_from, session_width}

-- the number at +0 of record i of a table of records of w bytes from off
abbrev pub numbers : List ℕ → ℕ → ℕ → ℕ → ℕ
numbers s off w i = le32 s (off + i * w)

-- the tokens of the keys' leases, and the numbers of the sessions
abbrev pub tokens : List ℕ → ℕ → ℕ
tokens s = numbers s (keys_from + 4) key_width

abbrev pub session_numbers : List ℕ → ℕ → ℕ
session_numbers s = numbers s sessions_from session_width

-- Rows

-- a row's session, key and kind
abbrev pub row_session : List ℕ → ℕ → ℕ
row_session s i = numbers s rows_from row_width i

abbrev pub row_key : List ℕ → ℕ → ℕ
row_key s i = get_or s (rows_from + i * row_width + 4) 0

abbrev pub row_kind : List ℕ → ℕ → ℕ
row_kind s i = get_or s (rows_from + i * row_width + 5) 0

-- n is the number of a session
unfoldable pub is_live : List ℕ → ℕ → Bool
is_live s n = some (λ j. eqb (session_numbers s j) n) session_count

-- row j, if it is used and on key k, is of another session than n, and both rows are of kind INVALIDATE
unfoldable pub pair_ok : List ℕ → ℕ → ℕ → ℕ → ℕ → Bool
pair_ok s n k d j =
    if eqb (row_session s j) 0 then true
    else if eqb (row_key s j) k then not (eqb (row_session s j) n) && (eqb (row_kind s j) INVALIDATE && eqb d INVALIDATE)
    else true

-- row i, if it is used: its key has no lease, its session is live, and it agrees with each row before it
unfoldable pub join_ok : List ℕ → ℕ → Bool
join_ok s i =
    if eqb (row_session s i) 0 then true
    else if eqb (le32 s (keys_from + row_key s i * key_width + 4)) 0
    then if is_live s (row_session s i) then every (pair_ok s (row_session s i) (row_key s i) (row_kind s i)) i else false
    else false

-- Numbers side by side

-- the first m of the numbers f, and zeros behind them
pub record Gathered (f : ℕ → ℕ) (m : ℕ) (nums : List ℕ) : Type 0 where
  pub long : length nums ≡ side
  pub is : (j : ℕ) → j < m → item nums j ≡ f j
  pub rest : (j : ℕ) → m ≤ j → item nums j ≡ 0

-- n stands at one place at most
abbrev pub Alone : List ℕ → ℕ → Type 0
Alone nums n = (j k : ℕ) → j < session_count → k < session_count → item nums j ≡ n → item nums k ≡ n → j ≡ k

-- its first place
abbrev pub first_place : List ℕ → ℕ → Option ℕ
first_place nums n = first (λ j. eqb (item nums j) n) Some None 0 session_count

-- Marks: a number has one bit, by its low twelve bits

abbrev pub mark_words : ℕ
mark_words = 64

abbrev pub has_mark : List ℕ → ℕ → Bool
has_mark marks n = has_bit (item marks (n / word_bits % mark_words)) (n % word_bits)

-- bit b of word k is set
abbrev pub set_bit : List ℕ → ℕ → ℕ → List ℕ
set_bit marks k b = set marks k (with_bit (item marks k) b)

abbrev pub with_mark : List ℕ → ℕ → List ℕ
with_mark marks n = set_bit marks (n / word_bits % mark_words) (n % word_bits)

-- each of the first k of the numbers f that is not 0 has its mark
pub record Marked (f : ℕ → ℕ) (k : ℕ) (marks : List ℕ) : Type 0 where
  pub long : length marks ≡ mark_words
  pub has : (j : ℕ) → j < k → (f j ≡ 0 → ⊥) → has_mark marks (f j) ≡ true

-- whether n, if it is not 0, meets the mark of another, and the marks with its own
abbrev pub meets_mark : List ℕ → ℕ → Bool
meets_mark marks n = if eqb n 0 then false else has_mark marks n

abbrev pub noted : List ℕ → ℕ → List ℕ
noted marks n = if eqb n 0 then marks else with_mark marks n

-- number k has its mark too, and it is new if r says that it met no other's
pub record Met (f : ℕ → ℕ) (k : ℕ) (r : Bool) (marks : List ℕ) : Type 0 where
  pub marked : Marked f (k + 1) marks
  pub new : r ≡ false → new_at f k ≡ true

-- Chains: a number is on one of them, by bits of a product that depend on all of its bits. The head of a chain and what is next to a place on it are
-- places; the last place stands for none

abbrev pub chain_count : ℕ
chain_count = 1024

abbrev pub chain_of : ℕ → ℕ
chain_of n = n * 2654435769 / 4194304 % chain_count

-- place j is reached from place q, along places below b
pub data Linked (next : List ℕ) (b j : ℕ) : ℕ → Type 0 where
  here : {q : ℕ} → q < b → q ≡ j → Linked next b j q
  there : {q : ℕ} → q < b → Linked next b j (item next q) → Linked next b j q

-- each of the first k numbers that is not 0 is reached from the head of its chain
pub record Chained (nums : List ℕ) (k : ℕ) (heads next : List ℕ) : Type 0 where
  pub heads_are : length heads ≡ chain_count
  pub next_are : length next ≡ side
  pub linked : (j : ℕ) → j < k → (item nums j ≡ 0 → ⊥) → Linked next k j (item heads (chain_of (item nums j)))

-- n is at no place that is reached from q
abbrev pub Passed : List ℕ → List ℕ → ℕ → ℕ → Type 0
Passed nums next q n = (k j : ℕ) → k < side → Linked next k j q → item nums j ≡ n → ⊥

-- Seats: each has a place, plus 1, or 0 if it is free

abbrev pub seat_count : ℕ
seat_count = 1024

-- the seat of n, by its low ten bits
abbrev pub seat_of : ℕ → ℕ
seat_of n = n % seat_count

-- the seats have places below m
pub record Small (m : ℕ) (seats : List ℕ) : Type 0 where
  pub long : length seats ≡ seat_count
  pub low : (h : ℕ) → item seats h ≤ m

-- the seat of each number before place i that is not 0 is taken
pub record Seated (nums : List ℕ) (i : ℕ) (seats : List ℕ) : Type 0 where
  pub small : Small i seats
  pub held : (j : ℕ) → j < i → (item nums j ≡ 0 → ⊥) → item seats (seat_of (item nums j)) ≡ 0 → ⊥

-- number n comes to place i, with those side by side: it takes its seat, if that is free, or else it is loose
abbrev pub seats_with : List ℕ → ℕ → ℕ → List ℕ
seats_with seats i n = if eqb n 0 then seats else if eqb (item seats (seat_of n)) 0 then set seats (seat_of n) (i + 1) else seats

abbrev pub loose_with : List ℕ → List ℕ → ℕ → ℕ → List ℕ
loose_with seats loose i n = if eqb n 0 then loose else if eqb (item seats (seat_of n)) 0 then loose else set loose i n

-- its seat does not have the same number
abbrev pub sits_with : List ℕ → List ℕ → ℕ → Bool
sits_with nums seats n = if eqb n 0 then true else if eqb (item seats (seat_of n)) 0 then true else not (eqb (item nums (item seats (seat_of n) - 1)) n)

-- all that comes of it
pub record Comes (i n : ℕ) (nums seats loose : List ℕ) (r : Bool) (nums' seats' loose' : List ℕ) : Type 0 where
  pub sits : r ≡ sits_with nums' seats n
  pub side_by_side : nums' ≡ set nums i n
  pub seated : seats' ≡ seats_with seats i n
  pub loosened : loose' ≡ loose_with seats loose i n

-- the number at place j is 0, sits in its seat, or is loose: there is another number in its seat. x is the number if it is loose, or 0
pub data Stand (nums seats : List ℕ) (j x : ℕ) : Type 0 where
  no_number : item nums j ≡ 0 → x ≡ 0 → Stand nums seats j x
  in_seat : item seats (seat_of (item nums j)) ≡ j + 1 → x ≡ 0 → Stand nums seats j x
  at_large : (item nums (item seats (seat_of (item nums j)) - 1) ≡ item nums j → ⊥) → x ≡ item nums j → Stand nums seats j x

-- of the numbers before place i the loose ones, each at its place, and zeros
pub record Loosened (nums seats : List ℕ) (i : ℕ) (loose : List ℕ) : Type 0 where
  pub long : length loose ≡ side
  pub stands : (j : ℕ) → j < i → Stand nums seats j (item loose j)
  pub rest : (j : ℕ) → i ≤ j → item loose j ≡ 0

-- the first i of the numbers f stand side by side, their seats are taken, and those that do not sit are loose
pub record Entered (f : ℕ → ℕ) (i : ℕ) (nums seats loose : List ℕ) : Type 0 where
  pub gathered : Gathered f i nums
  pub seated : Seated nums i seats
  pub loosened : Loosened nums seats i loose

-- number i entered too, or r says that the number in its seat is the same; it is new if it is not loose
pub record Sat (f : ℕ → ℕ) (i : ℕ) (r : Bool) (nums seats loose : List ℕ) : Type 0 where
  pub entered : r ≡ true → Entered f (i + 1) nums seats loose
  pub new : item loose i ≡ 0 → new_at f i ≡ true
  pub twice : r ≡ false → distinct f session_count ≡ false

-- One pass over the rows: a key has a bit for each session's place. A row of kind INVALIDATE has that of its session, any other has all of them

-- the words of a key
abbrev pub key_words : ℕ
key_words = 2

abbrev pub holder_words : ℕ
holder_words = key_count * key_words

-- the bit of the session at place q on key k
abbrev pub holds : List ℕ → ℕ → ℕ → Bool
holds words k q = has_bit (item words (k * key_words + q / word_bits)) (q % word_bits)

abbrev pub with_holder : List ℕ → ℕ → ℕ → List ℕ
with_holder words k q = set_bit words (k * key_words + q / word_bits) (q % word_bits)

-- every bit of a word
abbrev pub all_bits : ℕ
all_bits = 2 ^ word_bits - 1

-- r says that key k has no bit, and then it has all
pub record Taken (words : List ℕ) (k : ℕ) (r : Bool) (words' : List ℕ) : Type 0 where
  pub free : r ≡ true → (h : ℕ) → h < key_words → item words (k * key_words + h) ≡ 0
  pub held : r ≡ false → (h : ℕ) × (h < key_words) × (item words (k * key_words + h) ≡ 0 → ⊥)
  pub then_all : r ≡ true → words' ≡ set (set words (k * key_words) all_bits) (k * key_words + 1) all_bits
  pub else_same : r ≡ false → words' ≡ words

-- r says that a row of this kind, of the session at place p, if there is one, may come to key k, and then it has its bits
pub data Came (words : List ℕ) (k : ℕ) (p : Option ℕ) (kind : ℕ) (r : Bool) (words' : List ℕ) : Type 0 where
  dead : p ≡ None → r ≡ false → words' ≡ words → Came words k p kind r words'
  beside : {q : ℕ} → p ≡ Some q → kind ≡ INVALIDATE → r ≡ not (holds words k q) → words' ≡ with_holder words k q → Came words k p kind r words'
  alone : {q : ℕ} → p ≡ Some q → (kind ≡ INVALIDATE → ⊥) → Taken words k r words' → Came words k p kind r words'

-- row j is before row i, used, and on key k
pub record On (s : List ℕ) (i k j : ℕ) : Type 0 where
  pub before : j < i
  pub used : row_session s j ≡ 0 → ⊥
  pub key : row_key s j ≡ k

-- q is the place of the session of row j, where P has the places of numbers; of a row that is not of kind INVALIDATE any place is
abbrev pub Holder : List ℕ → (ℕ → Option ℕ) → ℕ → ℕ → Type 0
Holder s P j q = row_kind s j ≡ INVALIDATE → P (row_session s j) ≡ Some q

-- what the bits say of the rows before i
pub record Seen (s : List ℕ) (P : ℕ → Option ℕ) (i : ℕ) (words : List ℕ) : Type 0 where
  pub wide : length words ≡ holder_words
  pub placed : (k j : ℕ) → On s i k j → (q : ℕ) × (P (row_session s j) ≡ Some q)
  pub set-by : (k j q : ℕ) → On s i k j → q < session_count → Holder s P j q → holds words k q ≡ true
  pub found : (k h : ℕ) → h < key_words → (item words (k * key_words + h) ≡ 0 → ⊥) → (j : ℕ) × On s i k j
  pub left : (k q : ℕ) → q < session_count → holds words k q ≡ true → (j : ℕ) × On s i k j × Holder s P j q

-- the sessions' numbers side by side, each that is not 0 once
pub record Sessions (s nums : List ℕ) : Type 0 where
  pub gathered : Gathered (session_numbers s) session_count nums
  pub once : distinct (item nums) session_count ≡ true

-- all that the pass knows at row i
pub record Ready (s : List ℕ) (i : ℕ) (nums words : List ℕ) : Type 0 where
  pub sessions : Sessions s nums
  pub rows : Seen s (first_place nums) i words

-- r says of row i what is to be said, and if it is true the pass goes on
pub record Joined (s : List ℕ) (i : ℕ) (r : Bool) (nums words : List ℕ) : Type 0 where
  pub is : r ≡ join_ok s i
  pub next : r ≡ true → Ready s (i + 1) nums words
