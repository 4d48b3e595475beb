-- The column over lines of text: until an A line answers READY the cache's bytes stand and the book is new but for its counts; from then on each line is an event
-- of the machine or only counted, so both buffers stay tied to the world of the events told. The column is the machine's verdicts of them.
-- What is read of any line is in range, so nothing is asked of the lines.
use Rattle.std.specs.Prelude.{Option as Named, Some, None}
use mathlib.Core.Path.{◌≡◌, refl, sym, ap, subst, ◌∙◌}
use mathlib.Core.Bool.{Bool, true, false, ◌&&◌}
use mathlib.Core.Logic.{inl, inr}
use mathlib.Core.List.{List, [], ◌∷◌, ◌++◌}
use mathlib.Core.Option.{Option, none, some}
use Prim.Native.Nat.{ℕ}
use native.Mathlib.Omega.{arith}
use lib.Dec.{eqb, ltb}
use lib.ListN.{length}
use borrow.Author.Tests.{ltb-true}
use Rattle.lent.specs.Bytes.{Bytes, zeros}
use Rattle.lent.specs.Tables.{all_zero}
use Rattle.lent.proofs.Choices.{case_of, and_yes, if_ind}
use Rattle.machine.specs.Sizes.{session_count}
use Rattle.machine.specs.Words.{word_of}
use Rattle.machine.specs.State.{Value, session_place}
use Rattle.machine.specs.World.{Event, command, write, World, fresh_world, next, run, EventBytes}
use Rattle.machine.specs.declared.Answer.{Answer}
use Rattle.machine.specs.declared.Command.{Command}
use Rattle.machine.proofs.OrderlyKept.{orderly_fresh}
use Rattle.machine.proofs.Demand3.{demand_3_whole}
use Rattle.layout.specs.Layout.{decode}
use Rattle.layout.specs.WellFormed.{well_formed}
use Rattle.startup.specs.Start.{start_of}
use Rattle.cache.specs.Run.{ran}
use Rattle.numbered.specs.Commands.{command_of}
use Rattle.promises.proofs.Ran.{StartRefused, ready_or_refused}
use Rattle.book.specs.Memory.{Memory, memory_of}
use Rattle.book.specs.Book.{book_size, started, with_started, registered, counted}
use Rattle.book.proofs.Laws
use Rattle.rules.specs.Rules.{Said, unreadable, begins, noted, commands}
use Rattle.writes.specs.Writes.{marked, writes}
use Rattle.lines.specs.Lines.{read_line}
use Rattle.lines.specs.declared.Line.{Line}
use Rattle.lines.proofs.Laws.{size_of, Ranged, line_sound}
use Rattle.rehearsal.specs.Rehearsal.{command_said, acted, said_of, turn}
use Rattle.rehearsed.specs.TwoValues.{verdicts_two}
use Rattle.rehearsed.specs.Column.{act_of, left, NewBook, Readable}
use Rattle.rehearsed.specs.Text.{Text, text_rule, text_after, text_through, text_column, command_told, line_told, event_of, before, events_in, Run, beginning, world_after, ready, begun_by, run_of, rule_by, rule_in, RulesKept, PromisedIn}
use Rattle.rehearsed.proofs.TwoValues.{all_kept_two_of, all_kept_two_unbroken, two_all_kept, all_kept_two}
use Rattle.rehearsed.proofs.Recorded.{noted_ind}
use Rattle.rehearsed.proofs.Column.{Tied, tied_promised, rule_as, tied_next, tied_counted, tied_started, new-zeros, new-counted}

-- What a line does

-- an event's act, or nothing
abbrev pub said_by : Memory → Option Event → Said
said_by p none = unreadable p.cache p.book
said_by p (some e) = act_of p e

command_said_lem : (p : Memory) (time : ℕ) (c : Named Command) (v : Value) → command_said p.cache p.book time c v ≡ said_by p (command_told time c v)
command_said_lem p time (Some c) v = refl
command_said_lem p time None v = refl

acted-told : (p : Memory) → started p.book ≡ true → (l : Line) (v : Value) → acted p.cache p.book l v ≡ said_by p (line_told l v)
unfolding acted
acted-told p h Line.Unreadable v = refl
acted-told p h (Line.Start read_life write_life) v = rw h
acted-told p h (Line.Write n k size) v = rw h
acted-told p h (Line.Command number time a₁ a₂ a₃ a₄ size) v = rw h (command_said_lem p time (command_of number a₁ a₂ a₃ a₄) v)

-- before READY an A line is START, and each other line nothing
abbrev said_first : List ℕ → List ℕ → Line → Said
said_first x b Line.Unreadable = unreadable x b
said_first x b (Line.Start read_life write_life) = begins x b read_life write_life
said_first x b (Line.Write n k size) = unreadable x b
said_first x b (Line.Command number time a₁ a₂ a₃ a₄ size) = unreadable x b

acted-first : (x b : List ℕ) → started b ≡ false → (l : Line) (v : Value) → acted x b l v ≡ said_first x b l
unfolding acted
acted-first x b h Line.Unreadable v = refl
acted-first x b h (Line.Start read_life write_life) v = rw h
acted-first x b h (Line.Write n k size) v = rw h
acted-first x b h (Line.Command number time a₁ a₂ a₃ a₄ size) v = rw h

-- it breaks no rule
first_unbroken : (x b : List ℕ) (l : Line) → (said_first x b l).rule ≡ 0
unfolding begins
first_unbroken x b Line.Unreadable = refl
first_unbroken x b (Line.Start read_life write_life) = refl
first_unbroken x b (Line.Write n k size) = refl
first_unbroken x b (Line.Command number time a₁ a₂ a₃ a₄ size) = refl

-- a line as it is read
module _ (p : Memory) (t : Text) where
  pub text_told : started p.book ≡ true → said_of p.cache p.book t ≡ said_by p (event_of t)
  unfolding said_of
  text_told h = acted-told p h (read_line t).line (read_line t).value

  text_first : started p.book ≡ false → said_of p.cache p.book t ≡ said_first p.cache p.book (read_line t).line
  unfolding said_of
  text_first h = acted-first p.cache p.book h (read_line t).line (read_line t).value

  text_after_lem : (s : Said) → said_of p.cache p.book t ≡ s → text_after p t ≡ left s
  unfolding turn
  text_after_lem s e = ap left e

-- What is told is in range

abbrev InRange : Option Event → Type 0
InRange none = Unit {0}
InRange (some e) = EventBytes e × Readable e

command_in_range : (time : ℕ) (c : Named Command) (v : Value) → Bytes v → InRange (command_told time c v)
command_in_range time (Some c) v h = (h, tt)
command_in_range time None v h = tt

line_in_range : (l : Line) (v : Value) → size_of l ≡ length v → Bytes v → Ranged l → InRange (line_told l v)
line_in_range Line.Unreadable v e h r = tt
line_in_range (Line.Start read_life write_life) v e h r = tt
line_in_range (Line.Write n k size) v e h r = (tt, (omega (arith, r.0), omega (arith, r.1, e)))
line_in_range (Line.Command number time a₁ a₂ a₃ a₄ size) v e h r = command_in_range time (command_of number a₁ a₂ a₃ a₄) v h

event_in_range : (t : Text) → InRange (event_of t)
event_in_range t = let h = line_sound t in line_in_range (read_line t).line (read_line t).value h.size h.bytes h.range

-- The book stays one in which READY is noted

abbrev StillBegun : List ℕ → Type 0
StillBegun b = (length b ≡ book_size) × (started b ≡ true)

still_noted : (b : List ℕ) → StillBegun b → (c : Command) (w : ℕ) → StillBegun (noted b c w)
still_noted b h c w = noted_ind StillBegun b c w h
    (λ k q. let g = Laws.granted_keeps b h.0 k (registered b k) (Laws.registered_short b k) in (g.size, g.flag ∙ h.1))

still_marked : (x b : List ℕ) → StillBegun b → (n : ℕ) → StillBegun (marked x b n)
unfolding marked
still_marked x b h n =
    let i = session_place (decode x) n in
    if_ind StillBegun (well_formed x && ltb i session_count)
    (λ q. let f = ltb-true i session_count (and_yes (well_formed x) (ltb i session_count) q).1 in (Laws.length_marked b h.0 i f n, Laws.started-marked b h.0 i f n ∙ h.1))
    (λ q. h)

still_counted : (b : List ℕ) → StillBegun b → (rule : ℕ) → StillBegun (counted b rule)
still_counted b h rule = (Laws.length-counted b h.0 rule, Laws.started-counted b h.0 rule ∙ h.1)

still_acted : (p : Memory) → StillBegun p.book → (e : Event) → Readable e → StillBegun (act_of p e).book
unfolding commands writes
still_acted p h (command now c v) r = still_noted p.book h c (word_of (ran p.cache now c v).answer)
still_acted p h (write n k v) r =
    let b = marked p.cache p.book n in
    let m = still_marked p.cache p.book h n in
    let g = Laws.registered_keeps b m.0 k v r.1 in
    (g.size, g.flag ∙ m.1)

-- and the book keeps its size

sized-said : (p : Memory) → StillBegun p.book → (o : Option Event) → InRange o → length (said_by p o).book ≡ book_size
sized-said p h none r = h.0
sized-said p h (some e) r = (still_acted p h e r.1).0

sized-first : (x b : List ℕ) → length b ≡ book_size → (l : Line) → length (said_first x b l).book ≡ book_size
unfolding begins
sized-first x b h Line.Unreadable = h
sized-first x b h (Line.Start read_life write_life) =
    if_ind (λ (y : List ℕ). length y ≡ book_size) (ready x read_life write_life) (λ q. Laws.length-started b h) (λ q. h)
sized-first x b h (Line.Write n k size) = h
sized-first x b h (Line.Command number time a₁ a₂ a₃ a₄ size) = h

pub sized_text : (p : Memory) → length p.book ≡ book_size → (t : Text) → length (text_after p t).book ≡ book_size
sized_text p h t = elim (case_of (started p.book)) [
  | inl f ↦ go (said_by p (event_of t)) (text_told p t f) (sized-said p (h, f) (event_of t) (event_in_range t))
  | inr f ↦ go (said_first p.cache p.book (read_line t).line) (text_first p t f) (sized-first p.cache p.book h (read_line t).line)
]
  where
    go : (s : Said) → said_of p.cache p.book t ≡ s → length s.book ≡ book_size → length (text_after p t).book ≡ book_size
    go s e l = ap (λ (m : Memory). length m.book) (text_after_lem p t s e) ∙ Laws.length-counted s.book l s.rule

-- After READY

record Beside (p : Memory) (w : World) : Type 0 where
  tied : Tied p w
  flagged : started p.book ≡ true

abbrev next_by : World → Option Event → World
next_by w none = w
next_by w (some e) = next w e

still_beside : (p : Memory) (w : World) → Beside p w → StillBegun p.book
still_beside p w h = (h.tied.records.size, h.flagged)

beside_said : (p : Memory) (w : World) → Beside p w → (o : Option Event) → InRange o → Beside (left (said_by p o)) (next_by w o)
beside_said p w h none r = record { tied = tied_counted p w 0 h.tied; flagged = (still_counted p.book (still_beside p w h) 0).1 }
beside_said p w h (some e) r = record {
  tied = tied_next p w h.tied e r.0 r.1;
  flagged = (still_counted (act_of p e).book (still_acted p (still_beside p w h) e r.1) (act_of p e).rule).1;
}

beside_text : (p : Memory) (w : World) → Beside p w → (t : Text) → Beside (text_after p t) (next_by w (event_of t))
beside_text p w h t = rw (text_after_lem p t (said_by p (event_of t)) (text_told p t h.flagged)) (beside_said p w h (event_of t) (event_in_range t))

said_rule : (p : Memory) (w : World) → Tied p w → (o : Option Event) → (said_by p o).rule ≡ rule_by w o
said_rule p w h none = refl
said_rule p w h (some e) = rule_as p w h e

-- exact for one line: the machine's verdict of its event, and 0 for a line that tells none
tied_rule : (p : Memory) (w : World) → Tied p w → started p.book ≡ true → (t : Text) → text_rule p t ≡ rule_by w (event_of t)
tied_rule p w h e t = ap (λ (s : Said). s.rule) (text_told p t e) ∙ said_rule p w h (event_of t)

run-before : (w : World) (o : Option Event) (es : List Event) → run w (before o es) ≡ run (next_by w o) es
run-before w none es = refl
run-before w (some e) es = refl

beside_through : (p : Memory) (w : World) → Beside p w → (ts : List Text) → Beside (text_through p ts) (run w (events_in ts))
beside_through p w h [] = h
beside_through p w h (t ∷ ts) = rw (run-before w (event_of t) (events_in ts)) (beside_through (text_after p t) (next_by w (event_of t)) (beside_text p w h t) ts)

zeros-before : (w : World) (o : Option Event) (es : List Event) → eqb (rule_by w o) 0 && all_zero (verdicts_two (next_by w o) es) ≡ all_zero (verdicts_two w (before o es))
unfolding all_zero
zeros-before w none es = refl
zeros-before w (some e) es = refl

zeros-through : (p : Memory) (w : World) → Beside p w → (ts : List Text) → all_zero (text_column p ts) ≡ all_zero (verdicts_two w (events_in ts))
unfolding all_zero
zeros-through p w h [] = refl
zeros-through p w h (t ∷ ts) =
    ap (λ (n : ℕ). eqb n 0 && all_zero (text_column (text_after p t) ts)) (tied_rule p w h.tied h.flagged t)
    ∙ ap (λ (z : Bool). eqb (rule_by w (event_of t)) 0 && z) (zeros-through (text_after p t) (next_by w (event_of t)) (beside_text p w h t) ts)
    ∙ zeros-before w (event_of t) (events_in ts)

-- Every text

-- both buffers and the column after lines, beside the run that they tell
abbrev Follows : Memory → List ℕ → Option Run → Type 0
Follows p col none = (started p.book ≡ false) × (all_zero col ≡ true)
Follows p col (some r) = Beside p (world_after r) × (all_zero col ≡ all_zero (verdicts_two (beginning r) r.events))

follows_zero : (p : Memory) (col : List ℕ) (o : Option Run) → Follows p col o → Follows p (0 ∷ col) o
unfolding all_zero
follows_zero p col none h = h
follows_zero p col (some r) h = h

-- after what is said of a line
abbrev FollowsSaid : Said → List Text → Option Run → Type 0
FollowsSaid s ts o = Follows (text_through (left s) ts) (s.rule ∷ text_column (left s) ts) o

follows_text : (p : Memory) (t : Text) (s : Said) → said_of p.cache p.book t ≡ s → (ts : List Text) (o : Option Run) → FollowsSaid s ts o → Follows (text_through p (t ∷ ts)) (text_column p (t ∷ ts)) o
unfolding turn
follows_text p t s e ts o h = subst (λ (z : Said). FollowsSaid z ts o) (sym e) h

module _ (x b : List ℕ) (read_life write_life : ℕ) (new : NewBook b) (ts : List Text) where
  beside_ready : (start_of x read_life write_life).answer ≡ Answer.Ready → Beside (left (begins x b read_life write_life)) (fresh_world read_life write_life)
  unfolding begins
  beside_ready e = record {
    tied = tied_started x b read_life write_life e new;
    flagged = rw e (still_counted (with_started b) (Laws.length-started b new.size, Laws.started-started b new.size) 0).1;
  }

  begun_ready : (later : Option Run) → (start_of x read_life write_life).answer ≡ Answer.Ready
      → begun_by x (Line.Start read_life write_life) (events_in ts) later ≡ some (record { read_life = read_life; write_life = write_life; events = events_in ts })
  begun_ready later e = rw e

  follows_ready : (later : Option Run) → (start_of x read_life write_life).answer ≡ Answer.Ready
      → FollowsSaid (begins x b read_life write_life) ts (begun_by x (Line.Start read_life write_life) (events_in ts) later)
  unfolding begins
  follows_ready later e =
      let h = beside_ready e in
      let p = left (begins x b read_life write_life) in
      let r : Run = record { read_life = read_life; write_life = write_life; events = events_in ts } in
      subst (λ (o : Option Run). FollowsSaid (begins x b read_life write_life) ts o) (sym (begun_ready later e))
      (follows_zero (text_through p ts) (text_column p ts) (some r) (beside_through p (fresh_world read_life write_life) h ts, zeros-through p (fresh_world read_life write_life) h ts))

  follows_refused : (later : Option Run) → StartRefused x read_life write_life → FollowsSaid (unreadable x b) ts later
      → FollowsSaid (begins x b read_life write_life) ts (begun_by x (Line.Start read_life write_life) (events_in ts) later)
  unfolding begins
  follows_refused later s h = rw s.is h

follows_line : (x b : List ℕ) → NewBook b → (ts : List Text) (l : Line) (later : Option Run) → FollowsSaid (unreadable x b) ts later → FollowsSaid (said_first x b l) ts (begun_by x l (events_in ts) later)
follows_line x b new ts Line.Unreadable later h = h
follows_line x b new ts (Line.Start read_life write_life) later h = elim (ready_or_refused x read_life write_life) [
  | inl e ↦ follows_ready x b read_life write_life new ts later e
  | inr s ↦ follows_refused x b read_life write_life new ts later s h
]
follows_line x b new ts (Line.Write n k size) later h = h
follows_line x b new ts (Line.Command number time a₁ a₂ a₃ a₄ size) later h = h

lines_follow : (x b : List ℕ) → NewBook b → started b ≡ false → (ts : List Text) → Follows (text_through (memory_of x b) ts) (text_column (memory_of x b) ts) (run_of x ts)
unfolding all_zero
lines_follow x b new e [] = (e, refl)
lines_follow x b new e (t ∷ ts) =
    let p = memory_of x b in
    let s = said_first x b (read_line t).line in
    let q = memory_of x (counted b 0) in
    let said : said_of x b t ≡ s = text_first p t e in
    let rest : Follows (text_through q ts) (text_column q ts) (run_of x ts) = lines_follow x (counted b 0) (new-counted b 0 new) (Laws.started-counted b new.size 0 ∙ e) ts in
    follows_text p t s said ts (run_of x (t ∷ ts)) (follows_line x b new ts (read_line t).line (run_of x ts) (follows_zero (text_through q ts) (text_column q ts) (run_of x ts) rest))

-- The theorems, from a cache's buffer of any length and content and a new book

-- the rule printed of the line behind any others
rule_beside : (p : Memory) (col : List ℕ) (o : Option Run) → Follows p col o → (t : Text) → text_rule p t ≡ rule_in o (event_of t)
rule_beside p col none h t = ap (λ (s : Said). s.rule) (text_first p t h.0) ∙ first_unbroken p.cache p.book (read_line t).line
rule_beside p col (some r) h t = tied_rule p (world_after r) h.0.tied h.0.flagged t

kept_zeros : (p : Memory) (col : List ℕ) (o : Option Run) → Follows p col o → RulesKept o → all_zero col ≡ true
kept_zeros p col none h k = h.1
kept_zeros p col (some r) h k = h.1 ∙ all_kept_two_unbroken (beginning r) r.events (orderly_fresh r.read_life r.write_life) (all_kept_two r.read_life r.write_life r.events k)

zeros_kept : (p : Memory) (col : List ℕ) (o : Option Run) → Follows p col o → all_zero col ≡ true → RulesKept o
zeros_kept p col none h z = tt
zeros_kept p col (some r) h z = two_all_kept r.read_life r.write_life r.events (all_kept_two_of (beginning r) r.events (sym h.1 ∙ z))

kept_promised : (p : Memory) (col : List ℕ) (o : Option Run) → Follows p col o → RulesKept o → PromisedIn p o
kept_promised p col none h k = h.0
kept_promised p col (some r) h k = tied_promised p (world_after r) h.0.tied (demand_3_whole r.read_life r.write_life r.events k)

zeros-first : (p : Memory) (ts us : List Text) → all_zero (text_column p (ts ++ us)) ≡ true → all_zero (text_column p ts) ≡ true
unfolding all_zero
zeros-first p [] us z = refl
zeros-first p (t ∷ ts) us z =
    let h = and_yes (eqb (text_rule p t) 0) (all_zero (text_column (text_after p t) (ts ++ us))) z in
    rw h.0 (zeros-first (text_after p t) ts us h.1)

module _ (x b : List ℕ) (new : NewBook b) (fresh : started b ≡ false) where
  abbrev p₀ : Memory
  p₀ = memory_of x b

  -- each line's rule is the machine's verdict of what it tells, in the world of the lines before it
  pub lines_rule : (ts : List Text) (t : Text) → text_rule (text_through p₀ ts) t ≡ rule_in (run_of x ts) (event_of t)
  lines_rule ts t = rule_beside (text_through p₀ ts) (text_column p₀ ts) (run_of x ts) (lines_follow x b new fresh ts) t

  -- the column is 0 on every line exactly if the clients' four rules are kept
  lines_kept : (ts : List Text) → all_zero (text_column p₀ ts) ≡ true → RulesKept (run_of x ts)
  lines_kept ts = zeros_kept (text_through p₀ ts) (text_column p₀ ts) (run_of x ts) (lines_follow x b new fresh ts)

  pub lines-zeros : (ts : List Text) → RulesKept (run_of x ts) → all_zero (text_column p₀ ts) ≡ true
  lines-zeros ts = kept_zeros (text_through p₀ ts) (text_column p₀ ts) (run_of x ts) (lines_follow x b new fresh ts)

  -- lines whose column is all 0 keep the rules and have demand 3 at each moment: after each first part of them
  lines_promised : (ts us : List Text) → all_zero (text_column p₀ (ts ++ us)) ≡ true → RulesKept (run_of x ts) × PromisedIn (text_through p₀ ts) (run_of x ts)
  lines_promised ts us z =
      let k = lines_kept ts (zeros-first p₀ ts us z) in
      (k, kept_promised (text_through p₀ ts) (text_column p₀ ts) (run_of x ts) (lines_follow x b new fresh ts) k)

-- as the program begins: the book is zeros
pub rehearsal_begun : (x : List ℕ) (ts : List Text) (r : Run) → run_of x ts ≡ some r → started (text_through (memory_of x (zeros book_size)) ts).book ≡ true
rehearsal_begun x ts r e =
    let p = memory_of x (zeros book_size) in
    let h : Follows (text_through p ts) (text_column p ts) (some r) = subst (Follows (text_through p ts) (text_column p ts)) e (lines_follow x (zeros book_size) new-zeros (Laws.started-new book_size) ts) in
    h.0.flagged

pub rehearsal_promised : (x : List ℕ) (ts us : List Text) → all_zero (text_column (memory_of x (zeros book_size)) (ts ++ us)) ≡ true
    → RulesKept (run_of x ts) × PromisedIn (text_through (memory_of x (zeros book_size)) ts) (run_of x ts)
rehearsal_promised x = lines_promised x (zeros book_size) new-zeros (Laws.started-new book_size)
