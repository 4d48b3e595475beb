-- What is read of a book after it was written. Each reader looks at one stretch of it and each writer is a splice of one stretch, so what lies apart
-- from the splice is read as before, and what was written is read back. Readers stand first, then each writer.
use Rattle.std.specs.Prelude.{if◌then◌else◌}
use Rattle.std.proofs.Common.{◌≡◌, ℕ, suc, ◌+◌, ◌*◌, ◌%◌, ◌^◌, ◌<◌, ◌≤◌, min, Bool, true, false, eqb, ltb, ◌⊎◌, List, [], ◌∷◌, length, get_or, drop, sym, refl, ap, ◌∙◌, inl, inr, add-zero, arith, length-take, ltb-false, ltb-true, lt-ltb}
use native.Mathlib.Nat.{min-le_left, min-le_right, min-eq_left}
use lib.Seq.{take-length}
use Rattle.lent.specs.Bytes.{le32, bytes32, bytes64, win, splice, zeros}
use Rattle.lent.proofs.Choices.{if_ind}
use Rattle.lent.proofs.Numbers.{width32, le_bytes, le_front}
use Rattle.lent.proofs.Splice.{get_or-splice-after, get_or-splice-before, get_or-splice_in, length-splice, win-splice, win-splice-after, win-splice-before, win-splice_in}
use Rattle.lent.proofs.Tables.{place-fits}
use Rattle.machine.specs.Sizes.{key_count, session_count, value_max}
use Rattle.machine.specs.State.{Value}
use Rattle.machine.proofs.Views.{get_or-same}
use Rattle.book.specs.Book.{book_size, started_at, lines_at, broken_at, notes_from, note_width, marks_from, mark_width, note_at, started, with_started, lines_in, broken_in, note, with_note, registered, granted, with_registered, with_granted, mark, with_mark, counted}

-- ---- what lies apart from a splice

-- the n bytes at k and the m bytes at a have none in common
abbrev Apart : ℕ → ℕ → ℕ → ℕ → Type 0
Apart k n a m = (k + n ≤ a) ⊎ (a + m ≤ k)

-- two places of a table, whatever of its own place the one is written with
places_apart : (from w j i m : ℕ) → m ≤ w → (j ≡ i → ⊥) → Apart (from + j * w) w (from + i * w) m
places_apart from w j i m h n = go (ltb j i) refl
  where
    go : (t : Bool) → ltb j i ≡ t → Apart (from + j * w) w (from + i * w) m
    go true q = inl (omega (arith, place-fits j i w (ltb-true j i q)))
    go false q = inr (let l : i < j = omega (arith, ltb-false j i q, n) in omega (arith, place-fits i j w l))

module _ (b : List ℕ) (a : ℕ) (x : List ℕ) (f : a + length x ≤ length b) (k n : ℕ) (d : Apart k n a (length x)) where
  get_or_apart : (j : ℕ) → k ≤ j → j < k + n → get_or (splice b a x) j 0 ≡ get_or b j 0
  get_or_apart j g h = go d
    where
      go : Apart k n a (length x) → get_or (splice b a x) j 0 ≡ get_or b j 0
      go (inl p) = get_or-splice-before b a x j (omega arith) (omega arith)
      go (inr p) = get_or-splice-after b a x j f (omega arith)

  win_apart : (j m : ℕ) → k ≤ j → j + m ≤ k + n → win (splice b a x) j m ≡ win b j m
  win_apart j m g h = go d
    where
      go : Apart k n a (length x) → win (splice b a x) j m ≡ win b j m
      go (inl p) = win-splice-before b a x j m (omega arith) (omega arith)
      go (inr p) = win-splice-after b a x j m f (omega arith)

  le32_apart : (j : ℕ) → k ≤ j → j + 4 ≤ k + n → le32 (splice b a x) j ≡ le32 b j
  le32_apart j g h =
      rw (get_or_apart j (omega arith) (omega arith), get_or_apart (j + 1) (omega arith) (omega arith), get_or_apart (j + 2) (omega arith) (omega arith), get_or_apart (j + 3) (omega arith) (omega arith))

-- each reader, over a splice apart from what it reads
module _ (b : List ℕ) (a : ℕ) (x : List ℕ) (f : a + length x ≤ length b) where
  started_apart : 1 ≤ a → started (splice b a x) ≡ started b
  unfolding started
  started_apart h = rw (get_or_apart b a x f started_at 1 (inl h) started_at (omega arith) (omega arith))

  note_apart : (i : ℕ) → Apart (note_at i) note_width a (length x) → note (splice b a x) i ≡ note b i
  unfolding note
  note_apart i d =
      let l : min (get_or b (note_at i) 0) value_max ≤ value_max = min-le_right _ _ in
      rw (get_or_apart b a x f (note_at i) note_width d (note_at i) (omega arith) (omega arith))
      (win_apart b a x f (note_at i) note_width d (note_at i + 1) (min (get_or b (note_at i) 0) value_max) (omega arith) (omega arith))

  mark_apart : (i : ℕ) → Apart (marks_from + i * mark_width) mark_width a (length x) → mark (splice b a x) i ≡ mark b i
  unfolding mark
  mark_apart i d = le32_apart b a x f (marks_from + i * mark_width) mark_width d (marks_from + i * mark_width) (omega arith) (omega arith)

-- what holds of the notes of a book holds of what the register holds, and held at the grants: the note i of the key k, if it is one
note_is : (b b' : List ℕ) (k i : ℕ) → (k < key_count → note b' i ≡ note b i) → (if ltb k key_count then note b' i else []) ≡ (if ltb k key_count then note b i else [])
note_is b b' k i h = go (ltb k key_count) refl
  where
    go : (t : Bool) → ltb k key_count ≡ t → (if t then note b' i else []) ≡ (if t then note b i else [])
    go true e = h (ltb-true k key_count e)
    go false e = refl

registered_is : (b b' : List ℕ) (k : ℕ) → (k < key_count → note b' k ≡ note b k) → registered b' k ≡ registered b k
unfolding registered
registered_is b b' k h = note_is b b' k k h

granted_is : (b b' : List ℕ) (k : ℕ) → (k < key_count → note b' (key_count + k) ≡ note b (key_count + k)) → granted b' k ≡ granted b k
unfolding granted
granted_is b b' k h = note_is b b' k (key_count + k) h

-- c has the size of a book, and says what b does of START and of the sessions' table
pub record Kept (b c : List ℕ) : Type 0 where
  pub size : length c ≡ book_size
  pub flag : started c ≡ started b
  pub marks : (i : ℕ) → mark c i ≡ mark b i

-- ---- START is noted

module _ (b : List ℕ) (e : length b ≡ book_size) where
  pub length-started : length (with_started b) ≡ book_size
  unfolding with_started
  length-started = length-splice b started_at (1 ∷ []) (omega arith) ∙ e

  pub started-started : started (with_started b) ≡ true
  unfolding started with_started
  started-started = rw (get_or-splice_in b started_at (1 ∷ []) 0 (omega arith) (omega arith))

  note-started : (i : ℕ) → note (with_started b) i ≡ note b i
  unfolding with_started
  note-started i = note_apart b started_at (1 ∷ []) (omega arith) i (inr (omega arith))

  pub registered-started : (k : ℕ) → registered (with_started b) k ≡ registered b k
  registered-started k = registered_is b (with_started b) k (λ h. note-started k)

  pub mark-started : (i : ℕ) → mark (with_started b) i ≡ mark b i
  unfolding with_started
  mark-started i = mark_apart b started_at (1 ∷ []) (omega arith) i (inr (omega arith))

-- ---- a note is written

win_tail : (m : ℕ) (v : Value) → win (m ∷ v) 1 (length v) ≡ v
unfolding win
win_tail m v = take-length v

module _ (b : List ℕ) (e : length b ≡ book_size) (i : ℕ) (h : i < key_count + key_count) (v : Value) (l : length v ≤ value_max) where
  note_keeps : Kept b (with_note b i v)
  unfolding with_note
  note_keeps = record {
    size = length-splice b (note_at i) (length v ∷ v) (omega arith) ∙ e;
    flag = started_apart b (note_at i) (length v ∷ v) (omega arith) (omega arith);
    marks = λ j. mark_apart b (note_at i) (length v ∷ v) (omega arith) j (inr (omega arith));
  }

  note-same : note (with_note b i v) i ≡ v
  unfolding note with_note
  note-same =
      let g : get_or (splice b (note_at i) (length v ∷ v)) (note_at i) 0 ≡ length v = rw add-zero at (get_or-splice_in b (note_at i) (length v ∷ v) 0 (omega arith) (omega arith)) in
      rw (g, min-eq_left l) (win-splice_in b (note_at i) (length v ∷ v) 1 (length v) (omega arith) (omega arith) ∙ win_tail (length v) v)

  note_other : (j : ℕ) → (j ≡ i → ⊥) → note (with_note b i v) j ≡ note b j
  unfolding with_note
  note_other j n = note_apart b (note_at i) (length v ∷ v) (omega arith) j (places_apart notes_from note_width j i (suc (length v)) (omega arith) n)

-- ---- the note i is written for the key k, if it is one

module _ (b : List ℕ) (e : length b ≡ book_size) (k i : ℕ) (h : k < key_count → i < key_count + key_count) (v : Value) (l : length v ≤ value_max) where
  abbrev noted : List ℕ
  noted = if ltb k key_count then with_note b i v else b

  noted_ind : (P : List ℕ → Type 0) → (k < key_count → P (with_note b i v)) → P b → P noted
  noted_ind P f g = if_ind P (ltb k key_count) (λ q. f (ltb-true k key_count q)) (λ q. g)

  noted_keeps : Kept b noted
  noted_keeps = noted_ind (Kept b) (λ g. note_keeps b e i (h g) v l) (record { size = e; flag = refl; marks = λ j. refl })

  note_unnoted : (j : ℕ) → (k < key_count → j ≡ i → ⊥) → note noted j ≡ note b j
  note_unnoted j n = noted_ind (λ x. note x j ≡ note b j) (λ g. note_other b e i (h g) v l j (n g)) refl

module _ (b : List ℕ) (e : length b ≡ book_size) (k : ℕ) (v : Value) (l : length v ≤ value_max) where
  -- ---- the register writes the value v to the key k

  pub registered_keeps : Kept b (with_registered b k v)
  unfolding with_registered
  registered_keeps = noted_keeps b e k k (λ h. omega arith) v l

  pub registered-same : k < key_count → registered (with_registered b k v) k ≡ v
  unfolding registered with_registered
  registered-same h = rw (lt-ltb k key_count h) (note-same b e k (omega arith) v l)

  pub registered_other : (j : ℕ) → (j ≡ k → ⊥) → registered (with_registered b k v) j ≡ registered b j
  unfolding with_registered
  registered_other j n = registered_is b _ j (λ g. note_unnoted b e k k (λ h. omega arith) v l j (λ h. n))

  pub granted-registered : (j : ℕ) → granted (with_registered b k v) j ≡ granted b j
  unfolding with_registered
  granted-registered j = granted_is b _ j (λ g. note_unnoted b e k k (λ h. omega arith) v l (key_count + j) (λ h q. omega arith))

  -- ---- a grant on the key k is noted with the value v

  pub granted_keeps : Kept b (with_granted b k v)
  unfolding with_granted
  granted_keeps = noted_keeps b e k (key_count + k) (λ h. omega arith) v l

  pub granted-same : k < key_count → granted (with_granted b k v) k ≡ v
  unfolding granted with_granted
  granted-same h = rw (lt-ltb k key_count h) (note-same b e (key_count + k) (omega arith) v l)

  pub granted_other : (j : ℕ) → (j ≡ k → ⊥) → granted (with_granted b k v) j ≡ granted b j
  unfolding with_granted
  granted_other j n = granted_is b _ j (λ g. note_unnoted b e k (key_count + k) (λ h. omega arith) v l (key_count + j) (λ h q. n (omega arith)))

  pub registered-granted : (j : ℕ) → registered (with_granted b k v) j ≡ registered b j
  unfolding with_granted
  registered-granted j = registered_is b _ j (λ g. note_unnoted b e k (key_count + k) (λ h. omega arith) v l j (λ h q. omega arith))

-- ---- a place of the sessions' table is marked

module _ (b : List ℕ) (e : length b ≡ book_size) (i : ℕ) (h : i < session_count) (n : ℕ) where
  pub length_marked : length (with_mark b i n) ≡ book_size
  unfolding with_mark
  length_marked = length-splice b (marks_from + i * mark_width) (bytes32 n) (omega arith) ∙ e

  pub started-marked : started (with_mark b i n) ≡ started b
  unfolding with_mark
  started-marked = started_apart b (marks_from + i * mark_width) (bytes32 n) (omega arith) (omega arith)

  note-marked : (j : ℕ) → j < key_count + key_count → note (with_mark b i n) j ≡ note b j
  unfolding with_mark
  note-marked j g = note_apart b (marks_from + i * mark_width) (bytes32 n) (omega arith) j (inl (omega arith))

  pub registered-marked : (k : ℕ) → registered (with_mark b i n) k ≡ registered b k
  registered-marked k = registered_is b (with_mark b i n) k (λ g. note-marked k (omega arith))

  pub granted-marked : (k : ℕ) → granted (with_mark b i n) k ≡ granted b k
  granted-marked k = granted_is b (with_mark b i n) k (λ g. note-marked (key_count + k) (omega arith))

  pub mark-same : n < 2 ^ 32 → mark (with_mark b i n) i ≡ n
  unfolding mark with_mark
  mark-same g =
      sym (le_front width32 (splice b (marks_from + i * mark_width) (bytes32 n)) (marks_from + i * mark_width) mark_width (omega arith))
      ∙ ap (λ (s : List ℕ). le32 s 0) (win-splice b (marks_from + i * mark_width) (bytes32 n) mark_width refl (omega arith))
      ∙ le_bytes width32 n g

  pub mark_other : (j : ℕ) → (j ≡ i → ⊥) → mark (with_mark b i n) j ≡ mark b j
  unfolding with_mark
  mark_other j q = mark_apart b (marks_from + i * mark_width) (bytes32 n) (omega arith) j (places_apart marks_from mark_width j i mark_width (omega arith) q)

-- ---- a line is counted

module _ (b : List ℕ) (e : length b ≡ book_size) (rule : ℕ) where
  -- one line more
  abbrev more : List ℕ
  more = splice b lines_at (bytes64 ((lines_in b + 1) % 2 ^ 64))

  length_more : length more ≡ book_size
  length_more = length-splice b lines_at (bytes64 ((lines_in b + 1) % 2 ^ 64)) (omega arith) ∙ e

  -- it is one splice before the notes, or two
  kept_counted : {A : Type 0} (r : List ℕ → A) → ((s : List ℕ) (a : ℕ) (x : List ℕ) → length s ≡ book_size → lines_at ≤ a → a + length x ≤ notes_from → r (splice s a x) ≡ r s) → r (counted b rule) ≡ r b
  unfolding counted
  kept_counted r f =
      let one : r more ≡ r b = f b lines_at (bytes64 ((lines_in b + 1) % 2 ^ 64)) e (omega arith) (omega arith) in
      if_ind (λ x. r x ≡ r b) (eqb rule 0) (λ q. one)
      (λ q. f more broken_at (bytes64 ((broken_in more + 1) % 2 ^ 64)) length_more (omega arith) (omega arith) ∙ one)

  pub length-counted : length (counted b rule) ≡ book_size
  length-counted = kept_counted length (λ s a x q g h. length-splice s a x (omega arith)) ∙ e

  pub started-counted : started (counted b rule) ≡ started b
  started-counted = kept_counted started (λ s a x q g h. started_apart s a x (omega arith) (omega arith))

  note-counted : (i : ℕ) → note (counted b rule) i ≡ note b i
  note-counted i = kept_counted (λ x. note x i) (λ s a x q g h. note_apart s a x (omega arith) i (inr (omega arith)))

  pub registered-counted : (k : ℕ) → registered (counted b rule) k ≡ registered b k
  registered-counted k = registered_is b (counted b rule) k (λ g. note-counted k)

  pub granted-counted : (k : ℕ) → granted (counted b rule) k ≡ granted b k
  granted-counted k = granted_is b (counted b rule) k (λ g. note-counted (key_count + k))

  pub mark-counted : (i : ℕ) → mark (counted b rule) i ≡ mark b i
  mark-counted i = kept_counted (λ x. mark x i) (λ s a x q g h. mark_apart s a x (omega arith) i (inr (omega arith)))

-- ---- a value in the book is one of at most 64 bytes

note_short : (b : List ℕ) (i : ℕ) → length (note b i) ≤ value_max
unfolding note win
note_short b i =
    let l : min (get_or b (note_at i) 0) value_max ≤ value_max = min-le_right _ _ in
    simp length-take (omega (arith, min-le_left (min (get_or b (note_at i) 0) value_max) (length (drop (note_at i + 1) b))))

pub registered_short : (b : List ℕ) (k : ℕ) → length (registered b k) ≤ value_max
unfolding registered
registered_short b k = if_ind (λ (x : Value). length x ≤ value_max) (ltb k key_count) (λ q. note_short b k) (λ q. omega arith)

-- ---- a new book

module _ (n : ℕ) where
  pub started-new : started (zeros n) ≡ false
  unfolding started
  started-new = rw (get_or-same {A = ℕ} n started_at 0)

  note-new : (i : ℕ) → note (zeros n) i ≡ []
  unfolding note win
  note-new i = rw (get_or-same {A = ℕ} n (note_at i) 0)

  pub registered-new : (k : ℕ) → registered (zeros n) k ≡ []
  unfolding registered
  registered-new k = if_ind (λ (x : Value). x ≡ []) (ltb k key_count) (λ q. note-new k) (λ q. refl)

  pub mark-new : (i : ℕ) → mark (zeros n) i ≡ 0
  unfolding mark
  mark-new i = simp get_or-same
