-- A line by its cases, and its printing. A line that is not taken changes nothing; a HIT comes only from a cache of 65,536 bytes, so its value can be
-- printed from them; and the text depends on a value only where the word is HIT.
use Rattle.std.specs.Prelude.{Option, Some, None}
use Prim.Native.Nat.{ℕ, ◌≤◌}
use mathlib.Core.Path.{◌≡◌, refl, sym, ◌∙◌}
use mathlib.Core.Bool.{Bool, true, false, and-false}
use mathlib.Core.Logic.{◌⊎◌, inl, inr}
use mathlib.Core.List.{List, []}
use native.Mathlib.Omega.{arith}
use lib.Dec.{eqb, leb}
use lib.ListN.{length, take}
use borrow.Author.Tests.{eqb-true, leb-true, eq-eqb, ne_eqb}
use Rattle.lent.specs.Bytes.{win, splice}
use Rattle.lent.proofs.Choices.{and_yes, case_of, if_ind}
use Rattle.lent.proofs.Splice.{take-splice}
use Rattle.machine.specs.Sizes.{state_size, value_max}
use Rattle.machine.specs.Words.{word_of, HIT}
use Rattle.machine.specs.State.{Value}
use Rattle.machine.specs.Step.{started}
use Rattle.machine.specs.declared.Command.{Command}
use Rattle.layout.specs.WellFormed.{well_formed}
use Rattle.layout.proofs.Formed.{formed}
use Rattle.startup.specs.Start.{replied}
use Rattle.cache.specs.Run.{ran}
use Rattle.numbered.specs.Commands.{command_of}
use Rattle.book.specs.Book as book
use Rattle.book.specs.Book.{book_size, lines_in, counted}
use Rattle.rules.specs.Rules as rules
use Rattle.rules.specs.Rules.{unreadable, begins, commands}
use Rattle.rules.proofs.Hits.{start_no_hit}
use Rattle.rules.proofs.Told.{says_unless_hit}
use Rattle.writes.specs.Writes.{writes}
use Rattle.rules.specs.Says.{Says}
use Rattle.rules.specs.declared.Said.{Said}
use Rattle.lines.specs.Fields.{value_room}
use Rattle.lines.specs.Lines as lines
use Rattle.lines.specs.Lines.{key_max, read_line}
use Rattle.lines.proofs.Laws.{line_sound}
use Rattle.lines.specs.declared.Line.{Line}
use Rattle.replies.specs.Replies as replies
use Rattle.replies.specs.Replies.{line_room, detailed, ended}
use Rattle.rehearsal.specs.Rehearsal.{lent_right, command_said, commanded, acted, said_of, turn, line_of, end_of, Leaves}
use Rattle.rehearsal.specs.Saying.{not_read, Within, handed, text_of, Prints}

-- ---- the cases of a line

-- what is said stands where it stands
pub says_here : {s : rules.Said} {at : ℕ} {r : Said} {x b : List ℕ} → Says s at r x b → Says s r.at r x b
says_here h = record { word = h.word; detail = h.detail; place = refl; rule = h.rule; cache = h.cache; book = h.book; value = h.value; inside = h.inside; short = h.short }

-- a line that is not taken
pub not_taken : (s : rules.Said) (x b : List ℕ) (r : Said) → r ≡ not_read → s ≡ unreadable x b → Says s r.at r x b
not_taken s x b r e q = rw (e, q) (says_unless_hit (unreadable x b) 0 (λ w. omega arith))

module _ (x b : List ℕ) where
  pub start_late : (read_life write_life : ℕ) → book.started b ≡ true → acted x b (Line.Start read_life write_life) [] ≡ unreadable x b
  unfolding acted
  start_late read_life write_life e = rw e

  pub start_first : (read_life write_life : ℕ) → book.started b ≡ false → acted x b (Line.Start read_life write_life) [] ≡ begins x b read_life write_life
  unfolding acted
  start_first read_life write_life e = rw e

  pub write_early : (n k l : ℕ) (v : Value) → book.started b ≡ false → acted x b (Line.Write n k l) v ≡ unreadable x b
  unfolding acted
  write_early n k l v e = rw e

  pub write_started : (n k l : ℕ) (v : Value) → book.started b ≡ true → acted x b (Line.Write n k l) v ≡ writes x b n k v
  unfolding acted
  write_started n k l v e = rw e

  pub command_early : (time : ℕ) (c : Option Command) (v : Value) → book.started b ≡ false → commanded x b time c v ≡ unreadable x b
  command_early time c v e = rw e

  pub command_is : (time : ℕ) (q : Option Command) (c : Command) (v : Value) → q ≡ Some c → book.started b ≡ true → commanded x b time q v ≡ commands x b time c v
  command_is time q c v p e = rw (e, p)

  pub command_unknown : (time : ℕ) (q : Option Command) (v : Value) → q ≡ None → book.started b ≡ true → commanded x b time q v ≡ unreadable x b
  command_unknown time q v p e = rw (e, p)

-- ---- a line by what is read

module _ (t : List ℕ) (r : Line) (is : r ≡ (read_line t).line) where
  pub write_size : (n k l : ℕ) → r ≡ Line.Write n k l → (l ≡ length (read_line t).value) × ((l ≤ value_max) × (l ≤ value_room))
  write_size n k l e =
      let s = line_sound t in
      let q : l ≡ length (read_line t).value = rw (← is, e) at s.size in
      let g : (k ≤ key_max) × (l ≤ lines.value_max) = rw (← is, e) at s.range in
      (q, (g.1, omega (arith, s.room)))

  pub command_size : (p time a₁ a₂ a₃ a₄ l : ℕ) → r ≡ Line.Command p time a₁ a₂ a₃ a₄ l → (l ≡ length (read_line t).value) × (l ≤ value_room)
  command_size p time a₁ a₂ a₃ a₄ l e =
      let s = line_sound t in
      let q : l ≡ length (read_line t).value = rw (← is, e) at s.size in
      (q, omega (arith, s.room))

-- the value that was read stands at the front of the buffer
module _ (x b t : List ℕ) (r : Line) (is : r ≡ (read_line t).line) where
  pub said-unreadable : r ≡ Line.Unreadable → said_of x b t ≡ unreadable x b
  unfolding said_of acted
  said-unreadable e = rw (← is, e)

  pub said-start : (read_life write_life : ℕ) → r ≡ Line.Start read_life write_life → said_of x b t ≡ acted x b (Line.Start read_life write_life) []
  unfolding said_of acted
  said-start read_life write_life e = rw (← is, e)

  pub said_write : (n k l : ℕ) → r ≡ Line.Write n k l → (buf buf' : List ℕ) → buf' ≡ splice buf 0 (read_line t).value → said_of x b t ≡ acted x b (Line.Write n k l) (take l buf')
  unfolding said_of
  said_write n k l e buf buf' q = rw (q, take-splice buf (read_line t).value l (sym (write_size t r is n k l e).0), ← is, e)

  pub said_command : (p time a₁ a₂ a₃ a₄ l : ℕ) → r ≡ Line.Command p time a₁ a₂ a₃ a₄ l → (buf buf' : List ℕ) (c : Option Command) → buf' ≡ splice buf 0 (read_line t).value → c ≡ command_of p a₁ a₂ a₃ a₄
      → said_of x b t ≡ commanded x b time c (take l buf')
  unfolding said_of acted
  said_command p time a₁ a₂ a₃ a₄ l e buf buf' c q d = rw (q, take-splice buf (read_line t).value l (sym (command_size t r is p time a₁ a₂ a₃ a₄ l e).0), ← is, e, d)

-- ---- a HIT comes from a cache of its size

abbrev HitSized : List ℕ → ℕ → Type 0
HitSized x word = word ≡ HIT → length x ≡ state_size

ran-sized : (x : List ℕ) (time : ℕ) (c : Command) (v : Value) → HitSized x (word_of (ran x time c v).answer)
unfolding ran
ran-sized x time c v = go (well_formed x) refl
  where
    go : (t : Bool) → well_formed x ≡ t → HitSized x (word_of (ran x time c v).answer)
    go true e w = (formed x e).size
    go false e w = absurd (let z = rw e at w in omega (arith, z))

module _ (x b : List ℕ) where
  unreadable-sized : HitSized x (unreadable x b).word
  unreadable-sized w = absurd (omega arith)

  begins-sized : (read_life write_life : ℕ) → HitSized x (begins x b read_life write_life).word
  unfolding begins
  begins-sized read_life write_life w = absurd (start_no_hit x read_life write_life w)

  writes-sized : (n k : ℕ) (v : Value) → HitSized x (writes x b n k v).word
  unfolding writes
  writes-sized n k v w = absurd (omega arith)

  command_sized : (time : ℕ) (q : Option Command) (v : Value) → HitSized x (command_said x b time q v).word
  unfolding commands
  command_sized time (Some c) v = ran-sized x time c v
  command_sized time None v = unreadable-sized

  acted-sized : (l : Line) (v : Value) → HitSized x (acted x b l v).word
  unfolding acted
  acted-sized Line.Unreadable v = unreadable-sized
  acted-sized (Line.Start r w) v = if_ind (λ (s : rules.Said). HitSized x s.word) (book.started b) (λ q. unreadable-sized) (λ q. begins-sized r w)
  acted-sized (Line.Write n k l) v = if_ind (λ (s : rules.Said). HitSized x s.word) (book.started b) (λ q. writes-sized n k v) (λ q. unreadable-sized)
  acted-sized (Line.Command p t a₁ a₂ a₃ a₄ l) v = if_ind (λ (s : rules.Said). HitSized x s.word) (book.started b) (λ q. command_sized t (command_of p a₁ a₂ a₃ a₄) v) (λ q. unreadable-sized)

said-sized : (x b t : List ℕ) → HitSized x (said_of x b t).word
unfolding said_of
said-sized x b t = acted-sized x b (read_line t).line (read_line t).value

-- so a value that is handed out stands within the cache's bytes after the line
pub said-within : (x b t x' b' : List ℕ) (r : Said) → Says (said_of x b t) r.at r x' b' → length x' ≡ length x → Within r x'
said-within x b t x' b' r h e = record { inside = λ w. let l = said-sized x b t (sym h.word ∙ w) in omega (arith, h.inside w); short = h.short }

-- ---- printing

value_only : (word detail : ℕ) (v u : Value) → (word ≡ HIT → v ≡ u) → detailed word detail v ≡ detailed word detail u
unfolding detailed
value_only word detail v u f = go (case_of (eqb word HIT))
  where
    go : (eqb word HIT ≡ true) ⊎ (eqb word HIT ≡ false) → detailed word detail v ≡ detailed word detail u
    go (inl q) = rw (f (eqb-true word HIT q))
    go (inr q) = rw q

text_only : (n word detail : ℕ) (v u : Value) (rule : ℕ) → (word ≡ HIT → v ≡ u) → replies.replied n word detail v rule ≡ replies.replied n word detail u rule
unfolding replies.replied
text_only n word detail v u rule f = rw (value_only word detail v u f)

handed-hit : (r : Said) (x : List ℕ) → r.word ≡ HIT → handed r x ≡ win x r.at r.detail
handed-hit r x w = rw (eq-eqb r.word HIT w)

-- the text of what is said is that of the definition
text_is : (s : rules.Said) (at : ℕ) (r : Said) (x b b' : List ℕ) → Says s at r x b → text_of r x b' ≡ replies.replied (lines_in b') s.word s.detail s.value s.rule
text_is s at r x b b' h =
    text_only (lines_in b') r.word r.detail (handed r x) s.value r.rule (λ w. handed-hit r x w ∙ h.value w)
    ∙ rw (h.word, h.detail, h.rule)

-- the text stands at the front of what was lent
pub prints_text : (r : Said) (x b o : List ℕ) (n m : ℕ) (b' o' v : List ℕ)
    → (m ≡ length (replies.replied n r.word r.detail v r.rule)) × (o' ≡ splice o 0 (replies.replied n r.word r.detail v r.rule))
    → (r.word ≡ HIT → v ≡ win x r.at r.detail) → b' ≡ counted b r.rule → n ≡ lines_in b' → Prints r x b o m b' o'
prints_text r x b o n m b' o' v h f k e =
    let y : replies.replied n r.word r.detail v r.rule ≡ text_of r x b' = text_only n r.word r.detail v (handed r x) r.rule (λ w. f w ∙ sym (handed-hit r x w)) ∙ rw e in
    record { book = k; size = rw (← y) h.0; out = rw (← y) h.1 }

-- ---- the public functions

module _ (b out : List ℕ) where
  pub lent_sizes : lent_right b out ≡ true → (length b ≡ book_size) × (line_room ≤ length out)
  lent_sizes e = let p = and_yes (eqb (length b) book_size) (leb line_room (length out)) e in (eqb-true (length b) book_size p.0, leb-true line_room (length out) p.1)

  -- the book has its size, and there is room
  pub lent_right_by : length b ≡ book_size → leb line_room (length out) ≡ true → lent_right b out ≡ true
  lent_right_by e f = rw (eq-eqb (length b) book_size e, f)

  pub no_book : (length b ≡ book_size → ⊥) → lent_right b out ≡ false
  no_book e = rw (ne_eqb (length b) book_size e)

  pub no_room : leb line_room (length out) ≡ false → lent_right b out ≡ false
  no_room e = rw e (and-false (eqb (length b) book_size))

  pub end_idle : lent_right b out ≡ false → (0 ≡ (end_of b out).length) × (out ≡ (end_of b out).out)
  unfolding end_of
  end_idle e = rw e (refl, refl)

  pub end_printed : lent_right b out ≡ true → (n m k : ℕ) (out' : List ℕ) → n ≡ lines_in b → m ≡ book.broken_in b → (k ≡ length (ended n m)) × (out' ≡ splice out 0 (ended n m))
      → (k ≡ (end_of b out).length) × (out' ≡ (end_of b out).out)
  unfolding end_of
  end_printed e n m k out' p q h = rw (e, ← p, ← q) h

module _ (x b t out : List ℕ) where
  pub line_idle : lent_right b out ≡ false → Leaves (line_of x b t out) 0 x b out
  unfolding line_of
  line_idle e = rw e (record { length = refl; cache = refl; book = refl; out = refl })

  pub line_printed : lent_right b out ≡ true → (r : Said) (x' b' b'' out' : List ℕ) (n : ℕ) → Says (said_of x b t) r.at r x' b' → Prints r x' b' out n b'' out'
      → Leaves (line_of x b t out) n x' b'' out'
  unfolding line_of turn
  line_printed e r x' b' b'' out' n h p =
      let k : b'' ≡ counted (said_of x b t).book (said_of x b t).rule = p.book ∙ rw (h.book, h.rule) in
      let y = text_is (said_of x b t) r.at r x' b' b'' h in
      rw e (record {
        length = p.size ∙ rw (y, k);
        cache = h.cache;
        book = k;
        out = p.out ∙ rw (y, k);
      })
