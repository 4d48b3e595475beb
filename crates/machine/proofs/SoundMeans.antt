-- `sound` tests exactly what a well-formed state is: each test of one record is the fact about that record, and a walk that passes is the
-- fact at each place. Past a table's end stands the free entry, of which nothing is asked.
use mathlib.Core.Path.{◌≡◌, refl, sym, ap, ◌∙◌}
use mathlib.Core.Bool.{Bool, true, false, not, ◌&&◌}
use mathlib.Core.Logic.{◌⊎◌, inl, inr}
use mathlib.Core.List.{List, [], ◌∷◌}
use mathlib.Core.Option.{Option, none, some}
use Prim.Native.Nat.{ℕ, zero, suc, ◌+◌, ◌≤◌, ◌<◌}
use native.Mathlib.Omega.{arith}
use lib.Dec.{eqb, leb, ltb}
use lib.ListN.{length, get_or}
use borrow.Author.Tests.{eqb-true, eq-eqb, leb-true, le-leb, ltb-true, lt-ltb}
use Rattle.lent.specs.Tables.{every, some as at_some}
use Rattle.lent.proofs.Choices.{and_yes, and_both, case_of, clash, if_ind}
use Rattle.lent.proofs.Walks.{all-every, some_at, some_is}
use Rattle.machine.specs.Sizes.{key_count, session_count, row_count, value_max, step_max, life_max, time_max, number_max}
use Rattle.machine.specs.Words.{is_kind, INVALIDATE, REFRESH, INCREMENTAL}
use Rattle.machine.specs.State.{Value, Head, Lease, Key, blank, Slot, no_session, session, Staged, nothing, staged, DROP, Row, no_row, row, State, key_of, session_at, row_at, lease_on}
use Rattle.machine.specs.Sound.{clock_sound, lifetime, next_sound, head_sound, value_sound, cached_sound, given, lease_sound, key_sound, life_sound, session_sound, staged_sound, row_sound, token_in, number_in, number_at, token_at, numbers_distinct, tokens_distinct, live_row, rows_live, once, rows_once, shares, rows_alone, leaseless, rows_leaseless, joined, sized, sound}
use Rattle.machine.specs.WellFormed.{Fine, Within, LeaseFits, SessionFits, StagedFits, RowFits, LiveAs, WellFormed}
use Rattle.machine.specs.declared.Life.{Life}
use Rattle.machine.specs.declared.Session.{Session}
use Rattle.machine.proofs.Views.{no_some, no_row_lem, no_session_lem}
use Rattle.machine.proofs.Ranges.{within_means, means_within}
use Rattle.machine.proofs.Every.{pairs-all, all-pairs, distinct_alone, alone_distinct, place_inside, every-place, order}

-- a conjunction of many, and each of its parts by its place
abbrev all : List Bool → Bool
all [] = true
all (a ∷ []) = a
all (a ∷ b ∷ l) = a && all (b ∷ l)

parts : (l : List Bool) → all l ≡ true → (i : ℕ) → get_or l i true ≡ true
parts [] e i = refl
parts (a ∷ []) e zero = e
parts (a ∷ []) e (suc i) = refl
parts (a ∷ b ∷ l) e zero = (and_yes a (all (b ∷ l)) e).0
parts (a ∷ b ∷ l) e (suc i) = parts (b ∷ l) (and_yes a (all (b ∷ l)) e).1 i

-- Numbers

-- one that was given, of a record of which the rest is tested too
given_means : (next n : ℕ) (rest : Bool) → (given next n && rest) ≡ true → (1 ≤ n) × (n < next) × (rest ≡ true)
given_means next n rest e = let a = and_yes (given next n) rest e in let r = and_yes (leb 1 n) (ltb n next) a.0 in (leb-true 1 n r.0, ltb-true n next r.1, a.1)

means_given : (next n : ℕ) {rest : Bool} → 1 ≤ n → n < next → rest ≡ true → (given next n && rest) ≡ true
means_given next n p q r = and_both (and_both (le-leb 1 n p) (lt-ltb n next q)) r

-- One record alone

pub value_means : (v : Value) → value_sound v ≡ true → Fine v
value_means v e = let r = and_yes (leb (length v) value_max) (every (λ i. ltb (get_or v i 0) 256) (length v)) e in
    record { short = leb-true (length v) value_max r.0; bytes = λ i. ltb-true (get_or v i 0) 256 (every-place v 0 (λ b. ltb b 256) (length v) refl refl r.1 i) }

pub means_value : (v : Value) → Fine v → value_sound v ≡ true
means_value v f = and_both (le-leb (length v) value_max f.short) (all-every (λ i. ltb (get_or v i 0) 256) (length v) (λ i h. lt-ltb (get_or v i 0) 256 (f.bytes i)))

-- what an entry has, if there is one
abbrev pub IfAny : {A B : Type 0} → (B → A) → (B → Type 0) → A → Type 0
IfAny {A} {B} a P e = (x : B) → e ≡ a x → P x

abbrev pub FineIfAny : Option Value → Type 0
FineIfAny = IfAny some Fine

means_cached : (o : Option Value) → FineIfAny o → cached_sound o ≡ true
means_cached none f = refl
means_cached (some v) f = means_value v (f v refl)

staged_means : (d : ℕ) (u : Staged) → staged_sound d u ≡ true → StagedFits d u
staged_means d nothing e = tt
staged_means d (staged v) e = let r = and_yes (leb REFRESH d) (value_sound v) e in (leb-true REFRESH d r.0, value_means v r.1)
staged_means d DROP e = eqb-true d INCREMENTAL e

means_staged : (d : ℕ) (u : Staged) → StagedFits d u → staged_sound d u ≡ true
means_staged d nothing f = refl
means_staged d (staged v) f = and_both (le-leb REFRESH d f.0) (means_value v f.1)
means_staged d DROP f = eq-eqb d INCREMENTAL f

row_means : (n k d : ℕ) (u : Staged) → row_sound (row n k d u) ≡ true → (1 ≤ n) × Within INVALIDATE INCREMENTAL d × RowFits k d u
unfolding row_sound
row_means n k d u e =
    let a = and_yes (leb 1 n) (ltb k key_count && (is_kind d && staged_sound d u)) e in
    let b = and_yes (ltb k key_count) (is_kind d && staged_sound d u) a.1 in
    let c = and_yes (is_kind d) (staged_sound d u) b.1 in
    (leb-true 1 n a.0, within_means INVALIDATE INCREMENTAL d c.0, record { key = ltb-true k key_count b.0; what = staged_means d u c.1 })

means_row : (r : Row) → ((n k d : ℕ) (u : Staged) → r ≡ row n k d u → (1 ≤ n) × Within INVALIDATE INCREMENTAL d × RowFits k d u) → row_sound r ≡ true
unfolding row_sound
means_row no_row f = refl
means_row (row n k d u) f = let g = f n k d u refl in
    and_both (le-leb 1 n g.0) (and_both (lt-ltb k key_count g.2.key) (and_both (means_within INVALIDATE INCREMENTAL d g.1) (means_staged d u g.2.what)))

module _ (h : Head) where
  LeaseOf : Lease → Type 0
  LeaseOf l = (l.token < h.next_token) × LeaseFits (h.clock + h.read_life) l

  SessionOf : Session → Type 0
  SessionOf x = (x.number < h.next_session) × SessionFits (h.clock + h.write_life) x

  lease_means : (l : Lease) → lease_sound h (some l) ≡ true → LeaseOf l
  unfolding LeaseOf
  lease_means l e =
      let a = given_means h.next_token l.token (leb l.until (h.clock + h.read_life)) e in
      (a.1, record { positive = a.0; deadline = leb-true l.until (h.clock + h.read_life) a.2 })

  means_lease : (o : Option Lease) → IfAny some LeaseOf o → lease_sound h o ≡ true
  unfolding LeaseOf
  means_lease none f = refl
  means_lease (some l) f = let g = f l refl in means_given h.next_token l.token g.1.positive g.0 (le-leb l.until (h.clock + h.read_life) g.1.deadline)

  means_life : (p : Life) → IfAny Life.Open (λ t. t ≤ h.clock + h.write_life) p → life_sound h p ≡ true
  means_life (Life.Open t) f = le-leb t (h.clock + h.write_life) (f t refl)
  means_life Life.Sealed f = refl

  session_means : (x : Session) → session_sound h (session x) ≡ true → SessionOf x
  unfolding session_sound SessionOf
  session_means x e =
      let a = given_means h.next_session x.number (leb x.count step_max && life_sound h x.life) e in
      let c = and_yes (leb x.count step_max) (life_sound h x.life) a.2 in
      (a.1, record { positive = a.0; steps = leb-true x.count step_max c.0; deadline = λ t q. leb-true t (h.clock + h.write_life) (rw q at c.1) })

  means_session : (e : Slot) → IfAny session SessionOf e → session_sound h e ≡ true
  unfolding session_sound SessionOf
  means_session no_session f = refl
  means_session (session x) f = let g = f x refl in
      means_given h.next_session x.number g.1.positive g.0 (and_both (le-leb x.count step_max g.1.steps) (means_life x.life g.1.deadline))

-- Two rows

once_means : (r t : Row) {n k d e : ℕ} {u v : Staged} → once r t ≡ true → r ≡ row n k d u → t ≡ row n k e v → ⊥
once_means r t {n} {k} h p q = clash false (rw (p, q, eq-eqb n n refl, eq-eqb k k refl) at h) refl

means_once : (r t : Row) → ((n k d e : ℕ) (u v : Staged) → r ≡ row n k d u → t ≡ row n k e v → ⊥) → once r t ≡ true
means_once no_row t f = refl
means_once (row m j d u) no_row f = refl
means_once (row m j d u) (row n k e v) f = go (case_of (eqb m n && eqb j k))
  where
    go : ((eqb m n && eqb j k) ≡ true) ⊎ ((eqb m n && eqb j k) ≡ false) → not (eqb m n && eqb j k) ≡ true
    go (inl h) = let r = and_yes (eqb m n) (eqb j k) h in
        let p : row n k e v ≡ row m j e v = rw (eqb-true m n r.0, eqb-true j k r.1) in absurd (f m j d e u v refl p)
    go (inr h) = rw h

shares_means : (r t : Row) {m n k d e : ℕ} {u v : Staged} → shares r t ≡ true → r ≡ row m k d u → t ≡ row n k e v → (d ≡ INVALIDATE) × (e ≡ INVALIDATE)
shares_means r t {k} {d} {e} h p q = let x = and_yes (eqb d INVALIDATE) (eqb e INVALIDATE) (rw (p, q, eq-eqb k k refl) at h) in (eqb-true d INVALIDATE x.0, eqb-true e INVALIDATE x.1)

means_shares : (r t : Row) → ((m n k d e : ℕ) (u v : Staged) → r ≡ row m k d u → t ≡ row n k e v → (d ≡ INVALIDATE) × (e ≡ INVALIDATE)) → shares r t ≡ true
means_shares no_row t f = refl
means_shares (row m j d u) no_row f = refl
means_shares (row m j d u) (row n k e v) f = if_ind (λ (t : Bool). t ≡ true) (eqb j k)
    (λ h. let p : row n k e v ≡ row n j e v = rw (eqb-true j k h) in let x = f m n j d e u v refl p in and_both (eq-eqb d INVALIDATE x.0) (eq-eqb e INVALIDATE x.1)) (λ h. refl)

-- What stands in the tables

named : (e : Slot) → 1 ≤ number_in e → (x : Session) × (e ≡ session x)
named no_session h = absurd (omega arith)
named (session x) h = (x, refl)

tokened : (o : Option Lease) → 1 ≤ token_in o → (l : Lease) × (o ≡ some l)
tokened none h = absurd (omega arith)
tokened (some l) h = (l, refl)

module _ (s : State) where
  pub key_inside : (k : ℕ) (l : Lease) → length s.keys ≡ key_count → lease_on s k ≡ some l → k < key_count
  key_inside k l = place_inside s.keys blank (λ (x : Key). x.lease) key_count k (some l) (no_some l)

  pub session_inside : (i : ℕ) (x : Session) → length s.sessions ≡ session_count → session_at s i ≡ session x → i < session_count
  session_inside i x = place_inside s.sessions no_session (λ (y : Slot). y) session_count i (session x) (no_session_lem x)

  pub row_inside : (i n k d : ℕ) (u : Staged) → length s.rows ≡ row_count → row_at s i ≡ row n k d u → i < row_count
  row_inside i n k d u = place_inside s.rows no_row (λ (y : Row). y) row_count i (row n k d u) (no_row_lem n k d u)

  live_means : (n : ℕ) → 1 ≤ n → at_some (λ j. eqb (number_at s j) n) session_count ≡ true → LiveAs s.sessions n
  live_means n h e =
      let r = some_is (λ j. eqb (number_at s j) n) session_count e in
      let q = eqb-true (number_at s r.0) n r.2 in
      let x = named (session_at s r.0) (omega arith) in
      record { place = r.0; live = x.0; is = x.1; number = sym (ap number_in x.1) ∙ q }

  means_live : (n : ℕ) → length s.sessions ≡ session_count → LiveAs s.sessions n → at_some (λ j. eqb (number_at s j) n) session_count ≡ true
  means_live n c x = some_at (λ j. eqb (number_at s j) n) session_count x.place (session_inside x.place x.live c x.is) (eq-eqb (number_at s x.place) n (ap number_in x.is ∙ x.number))

-- A sound state, part by part: the tests in their order, and each by its place

abbrev sound_tests : State → List Bool
sound_tests s =
    sized s
    ∷ head_sound s.head
    ∷ every (λ k. key_sound s.head (key_of s k)) key_count
    ∷ every (λ i. row_sound (row_at s i)) row_count
    ∷ every (λ j. session_sound s.head (session_at s j)) session_count
    ∷ joined s
    ∷ []

abbrev size_tests : State → List Bool
size_tests s =
    eqb (length s.keys) key_count
    ∷ eqb (length s.sessions) session_count
    ∷ eqb (length s.rows) row_count
    ∷ []

abbrev head_tests : State → List Bool
head_tests s =
    clock_sound s.head
    ∷ lifetime s.head.read_life
    ∷ lifetime s.head.write_life
    ∷ next_sound s.head.next_session
    ∷ next_sound s.head.next_token
    ∷ []

abbrev join_tests : State → List Bool
join_tests s =
    numbers_distinct s
    ∷ tokens_distinct s
    ∷ rows_live s
    ∷ rows_once s
    ∷ rows_alone s
    ∷ rows_leaseless s
    ∷ []

module _ (s : State) (e : sound s ≡ true) where
  sound_parts : (i : ℕ) → get_or (sound_tests s) i true ≡ true
  unfolding sound
  sound_parts = parts (sound_tests s) e

  size_parts : (i : ℕ) → get_or (size_tests s) i true ≡ true
  unfolding sized
  size_parts = parts (size_tests s) (sound_parts 0)

  head_parts : (i : ℕ) → get_or (head_tests s) i true ≡ true
  unfolding head_sound
  head_parts = parts (head_tests s) (sound_parts 1)

  join_parts : (i : ℕ) → get_or (join_tests s) i true ≡ true
  unfolding joined
  join_parts = parts (join_tests s) (sound_parts 5)

  -- 256 keys, 128 sessions, 384 Q rows
  pub keys_length : length s.keys ≡ key_count
  keys_length = eqb-true (length s.keys) key_count (size_parts 0)

  pub sessions_length : length s.sessions ≡ session_count
  sessions_length = eqb-true (length s.sessions) session_count (size_parts 1)

  pub rows_length : length s.rows ≡ row_count
  rows_length = eqb-true (length s.rows) row_count (size_parts 2)

  key_at : (k : ℕ) → (cached_sound (key_of s k).value ≡ true) × (lease_sound s.head (lease_on s k) ≡ true)
  unfolding key_sound
  key_at k = and_yes (cached_sound (key_of s k).value) (lease_sound s.head (lease_on s k)) (every-place s.keys blank (key_sound s.head) key_count keys_length refl (sound_parts 2) k)

  lease_at : (k : ℕ) (l : Lease) → lease_on s k ≡ some l → LeaseOf s.head l
  lease_at k l p = lease_means s.head l (rw p at (key_at k).1)

  session_at_lem : (i : ℕ) (x : Session) → session_at s i ≡ session x → SessionOf s.head x
  unfolding session_sound
  session_at_lem i x p = session_means s.head x (rw p at (every-place s.sessions no_session (session_sound s.head) session_count sessions_length refl (sound_parts 4) i))

  row_at_lem : (i n k d : ℕ) (u : Staged) → row_at s i ≡ row n k d u → (1 ≤ n) × Within INVALIDATE INCREMENTAL d × RowFits k d u
  unfolding row_sound
  row_at_lem i n k d u p = row_means n k d u (rw p at (every-place s.rows no_row row_sound row_count rows_length refl (sound_parts 3) i))

  row_joined : (i n k d : ℕ) (u : Staged) → row_at s i ≡ row n k d u → (at_some (λ j. eqb (number_at s j) n) session_count ≡ true) × (token_at s k ≡ 0)
  unfolding rows_live rows_leaseless
  row_joined i n k d u p = (rw p at (every-place s.rows no_row (live_row s) row_count rows_length refl (join_parts 2) i), eqb-true (token_at s k) 0 (rw p at (every-place s.rows no_row (leaseless s) row_count rows_length refl (join_parts 5) i)))

  -- two rows, the lower place first
  row_pair : (i j n k d : ℕ) (u : Staged) → row_at s i ≡ row n k d u → j < i → (once (row_at s j) (row_at s i) ≡ true) × (shares (row_at s j) (row_at s i) ≡ true)
  unfolding rows_once rows_alone
  row_pair i j n k d u p l = (
    pairs-all (λ j i. once (row_at s j) (row_at s i)) row_count i j (join_parts 3) (row_inside s i n k d u rows_length p) l,
    pairs-all (λ j i. shares (row_at s j) (row_at s i)) row_count i j (join_parts 4) (row_inside s i n k d u rows_length p) l,
  )

  -- what is sound is well formed at its own clock
  pub sound_means : WellFormed s s.head.clock
  unfolding LeaseOf SessionOf tokens_distinct numbers_distinct
  sound_means = record {
    orderly = record {
      leases = λ k l p. ((lease_at k l p).0, λ i n d v q. let a = (lease_at k l p).1.positive in let b = (row_joined i n k d v q).1 in let c : token_at s k ≡ l.token = ap token_in p in omega arith);
      numbers = λ i x p. (session_at_lem i x p).0;
      unique = distinct_alone (session_at s) number_in session session_count (join_parts 0) (λ i x p. (session_inside s i x sessions_length p, (session_at_lem i x p).1.positive));
      kinds = λ i n k d v p. (row_at_lem i n k d v p).1;
      alone = λ i j n m k d c u v p q. elim (order i j) [
        | inl a ↦ inr a
        | inr a ↦ inl (elim a [
          | inl b ↦ (shares_means (row_at s i) (row_at s j) (row_pair j i m k c v q b).1 p q).0
          | inr b ↦ (shares_means (row_at s j) (row_at s i) (row_pair i j n k d u p b).1 q p).1
        ])
      ];
      plain = λ i n k v p. omega (arith, (row_at_lem i n k INVALIDATE (staged v) p).2.what.0);
    };
    head = record {
      time = leb-true s.head.clock time_max (head_parts 0);
      read_life = within_means 1 life_max s.head.read_life (head_parts 1);
      write_life = within_means 1 life_max s.head.write_life (head_parts 2);
      next_session = within_means 1 number_max s.head.next_session (head_parts 3);
      next_token = within_means 1 number_max s.head.next_token (head_parts 4);
    };
    keys = record { length = keys_length; values = λ k {v} p. value_means v (rw p at (key_at k).0); leases = λ k {l} p. (lease_at k l p).1; distinct = λ k j {l} {m}. distinct_alone (lease_on s) token_in some key_count (join_parts 1) (λ k l p. (key_inside s k l keys_length p, (lease_at k l p).1.positive)) k j l m };
    sessions = record { length = sessions_length; each = λ i {x} p. (session_at_lem i x p).1 };
    rows = record {
      length = rows_length;
      each = λ i {n} {k} {d} {u} p. (row_at_lem i n k d u p).2;
      once = λ i j {n} {k} {d} {c} {u} {v} p q. elim (order i j) [
        | inl a ↦ a
        | inr a ↦ absurd (elim a [ inl b ↦ once_means (row_at s i) (row_at s j) (row_pair j i n k c v q b).0 p q | inr b ↦ once_means (row_at s j) (row_at s i) (row_pair i j n k d u p b).0 q p ])
      ];
    };
    live = λ i {n} {k} {d} {u} p. live_means s n (row_at_lem i n k d u p).0 (row_joined i n k d u p).0;
  }

-- and what is well formed at its own clock is sound
module _ (s : State) (h : WellFormed s s.head.clock) where
  named_by : (i n k d : ℕ) (u : Staged) → row_at s i ≡ row n k d u → 1 ≤ n
  named_by i n k d u p = let x = h.live i p in let z = (h.sessions.each x.place x.is).positive in omega (arith, z, x.number)

  lives : (i : ℕ) (r : Row) → row_at s i ≡ r → live_row s r ≡ true
  lives i no_row p = refl
  lives i (row n k d u) p = means_live s n h.sessions.length (h.live i p)

  bare : (i : ℕ) (r : Row) → row_at s i ≡ r → leaseless s r ≡ true
  bare i no_row p = refl
  bare i (row n k d u) p = eq-eqb (token_at s k) 0 (go (lease_on s k) refl)
    where
      go : (o : Option Lease) → lease_on s k ≡ o → token_in o ≡ 0
      go none q = refl
      go (some l) q = absurd ((h.orderly.leases k l q).1 i n d u p)

  both_one : (i j m n k d e : ℕ) (u v : Staged) → j < i → row_at s j ≡ row m k d u → row_at s i ≡ row n k e v → (d ≡ INVALIDATE) × (e ≡ INVALIDATE)
  both_one i j m n k d e u v l p q = (elim (h.orderly.alone j i m n k d e u v p q) [ inl z ↦ z | inr z ↦ absurd (omega arith) ], elim (h.orderly.alone i j n m k e d v u q p) [ inl z ↦ z | inr z ↦ absurd (omega arith) ])

  joined-sound : joined s ≡ true
  unfolding joined rows_live rows_once rows_alone rows_leaseless numbers_distinct tokens_distinct
  joined-sound =
      and_both (alone_distinct (session_at s) number_in session session_count named h.orderly.unique)
      (and_both (alone_distinct (lease_on s) token_in some key_count tokened (λ i j x y p q. h.keys.distinct i j p q))
      (and_both (all-every (λ i. live_row s (row_at s i)) row_count (λ i l. lives i (row_at s i) refl))
      (and_both (all-pairs (λ j i. once (row_at s j) (row_at s i)) row_count (λ i j l a. means_once (row_at s j) (row_at s i) (λ n k d e u v p q. let z = h.rows.once j i p q in omega arith)))
      (and_both (all-pairs (λ j i. shares (row_at s j) (row_at s i)) row_count (λ i j l a. means_shares (row_at s j) (row_at s i) (λ m n k d e u v p q. both_one i j m n k d e u v a p q)))
      (all-every (λ i. leaseless s (row_at s i)) row_count (λ i l. bare i (row_at s i) refl))))))

  sized-sound : sized s ≡ true
  unfolding sized
  sized-sound =
      and_both (eq-eqb (length s.keys) key_count h.keys.length)
      (and_both (eq-eqb (length s.sessions) session_count h.sessions.length) (eq-eqb (length s.rows) row_count h.rows.length))

  head_sound_lem : head_sound s.head ≡ true
  unfolding head_sound
  head_sound_lem =
      and_both (le-leb s.head.clock time_max h.head.time)
      (and_both (means_within 1 life_max s.head.read_life h.head.read_life)
      (and_both (means_within 1 life_max s.head.write_life h.head.write_life)
      (and_both (means_within 1 number_max s.head.next_session h.head.next_session) (means_within 1 number_max s.head.next_token h.head.next_token))))

  key_sound_lem : (k : ℕ) → key_sound s.head (key_of s k) ≡ true
  unfolding key_sound LeaseOf
  key_sound_lem k = and_both (means_cached (key_of s k).value (λ v p. h.keys.values k p)) (means_lease s.head (lease_on s k) (λ l p. ((h.orderly.leases k l p).0, h.keys.leases k p)))

  row_sound_lem : (i : ℕ) → row_sound (row_at s i) ≡ true
  row_sound_lem i = means_row (row_at s i) (λ n k d u p. (named_by i n k d u p, h.orderly.kinds i n k d u p, h.rows.each i p))

  session_sound_lem : (j : ℕ) → session_sound s.head (session_at s j) ≡ true
  unfolding SessionOf
  session_sound_lem j = means_session s.head (session_at s j) (λ x p. (h.orderly.numbers j x p, h.sessions.each j p))

  pub means_sound : sound s ≡ true
  unfolding sound
  means_sound =
      and_both sized-sound
      (and_both head_sound_lem
      (and_both (all-every (λ k. key_sound s.head (key_of s k)) key_count (λ k l. key_sound_lem k))
      (and_both (all-every (λ i. row_sound (row_at s i)) row_count (λ i l. row_sound_lem i))
      (and_both (all-every (λ j. session_sound s.head (session_at s j)) session_count (λ j l. session_sound_lem j)) joined-sound))))
