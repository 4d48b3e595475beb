-- The rehearsal's rule column is what the machine's rules say, with rule 1 in its two-value form. The cache's bytes are well formed and say the
-- machine's state, and the book records what the rules speak of; so each line prints the rule that its event breaks, and keeps this.
-- A column of zeros is a run that keeps the rules, and such a run has demand 3 at each moment.
use mathlib.Core.Path.{◌≡◌, refl, sym, ap, ◌∙◌}
use mathlib.Core.Bool.{Bool, true, false, not, ◌||◌, or-false}
use mathlib.Core.List.{List, [], ◌∷◌, ◌++◌}
use Prim.Native.Nat.{ℕ}
use native.Mathlib.Omega.{arith}
use lib.Dec.{eqb}
use lib.ListN.{length, length-replicate}
use borrow.Author.Tests.{lt-ltb}
use Rattle.lent.specs.Bytes.{zeros}
use Rattle.lent.specs.Tables.{same, all_zero}
use Rattle.lent.proofs.Choices.{clash}
use Rattle.machine.specs.Sizes.{session_count}
use Rattle.machine.specs.Tables.{any}
use Rattle.machine.specs.Words.{word_of, STORED, DONE, UNDONE}
use Rattle.machine.specs.State.{Value, State, fresh, session_place}
use Rattle.machine.specs.Sound.{sound}
use Rattle.machine.specs.Refusals.{not_live}
use Rattle.machine.specs.Expiry.{expire}
use Rattle.machine.specs.Step.{step}
use Rattle.machine.specs.World.{Event, command, write, World, fresh_world, commanded, written, next, run, EventBytes, AllBytes, Consistent}
use Rattle.machine.specs.Test.{differs}
use Rattle.machine.specs.declared.Answer.{Answer}
use Rattle.machine.specs.declared.Command.{Command}
use Rattle.machine.specs.declared.Command.TheVariants.{Begin, Get, Fill, Quar, Stage, Delta, Validate, Done, Undo, Evict, Tick}
use Rattle.machine.proofs.Views
use Rattle.machine.proofs.OrderlyKept.{orderly_fresh}
use Rattle.machine.proofs.Accepted.{session_of_lem}
use Rattle.machine.proofs.SoundMeans.{sound_means}
use Rattle.machine.proofs.SoundFacts.{session_place_lem}
use Rattle.machine.proofs.Demand3.{demand_3}
use Rattle.layout.specs.Layout.{decode}
use Rattle.layout.specs.WellFormed.{well_formed}
use Rattle.layout.proofs.Formed.{formed}
use Rattle.startup.specs.Start.{Reply, start_of}
use Rattle.startup.proofs.Sound.{ready_formed, ready_decodes}
use Rattle.cache.specs.Run.{ran}
use Rattle.lent.proofs.Runs.{front_kept}
use Rattle.promises.proofs.Follow.{all_bytes_before}
use Rattle.cache.proofs.Taken.{ran_formed}
use Rattle.promises.proofs.Ran.{formed_kept, decode-ran}
use Rattle.book.specs.Memory.{Memory}
use Rattle.book.specs.Book.{book_size, registered, granted, mark, with_started, counted}
use Rattle.book.proofs.Laws
use Rattle.risks.specs.Risks.{wrote_for, stale_for}
use Rattle.rules.specs.Rules.{begins, rule_of, commands}
use Rattle.writes.specs.Writes.{may_write, marked, writes}
use Rattle.rehearsed.specs.TwoValues.{oldest, broken_two, verdicts_two, AllKeptTwo}
use Rattle.rehearsed.specs.Column.{rule_at, after, through, column, started_memory, NewBook, Readable, AllReadable, Promised}
use Rattle.rehearsed.proofs.Moves.{moves_step}
use Rattle.rehearsed.proofs.TwoValues.{oldest-any, stored_lease, under, all_kept_two_of, all_kept_two_unbroken, two_all_kept}
use Rattle.rehearsed.proofs.Outlived.{done_live, undone_live, was_live, differs-expired, any-differs_as}
use Rattle.rehearsed.proofs.Recorded.{Recorded, recorded-counted, recorded-commanded, recorded-written}

-- the cache's bytes and the book beside a world of the machine
pub record Tied (p : Memory) (w : World) : Type 0 where
  pub formed : well_formed p.cache ≡ true
  pub says : decode p.cache ≡ w.state
  pub records : Recorded p.book w

pub tied_promised : (p : Memory) (w : World) → Tied p w → Consistent w → Promised p w
tied_promised p w h c = record { consistent = c; formed = h.formed; cache = h.says; register = h.records.register }

-- One line

module _ (p : Memory) (w : World) (h : Tied p w) where
  tied_sound : sound w.state ≡ true
  tied_sound = sym (ap sound h.says) ∙ (formed p.cache h.formed).sound

  ran_answer : (now : ℕ) (c : Command) (v : Value) → (ran p.cache now c v).answer ≡ (step w.state now c v).answer
  ran_answer now c v = ap (λ (r : Reply). r.answer) (ran_formed p.cache now c v h.formed) ∙ ap (λ (s : State). (step s now c v).answer) h.says

  -- rule 1: the values registered and noted are the two
  two_as : (now t k : ℕ) (v : Value) → eqb (word_of (step w.state now (Fill t k) v).answer) STORED ≡ true
      → not (same v (registered p.book k) || same v (granted p.book k)) ≡ not (same v (w.register k) || (same v (oldest (w.register k) (w.since t k)) || false))
  two_as now t k v e =
      let x = stored_lease w.state now t k v e in
      let y = h.records.grants k x.0 x.1 in
      let old : granted p.book k ≡ oldest (w.register k) (w.since t k) = (y.1 ∙ oldest-any [] (w.register k) (w.since x.0.token k) y.0) ∙ ap (λ (u : ℕ). oldest (w.register k) (w.since u k)) x.2 in
      rw (h.records.register k, old) (ap not (ap (λ (b : Bool). same v (w.register k) || b) (sym (or-false (same v (oldest (w.register k) (w.since t k)))))))

  -- rule 3: a live session is marked if the register has written for it
  wrote_as : (n : ℕ) → not_live w.state n ≡ false → wrote_for p.cache p.book n ≡ w.wrote n
  unfolding wrote_for
  wrote_as n e =
      let x = session_of_lem w.state n e in
      let y : eqb (mark p.book (session_place w.state n)) n ≡ w.wrote n = rw x.2 at (h.records.marks (session_place w.state n) x.0 x.1) in
      rw (h.says, lt-ltb (session_place w.state n) session_count (session_place_lem w.state tied_sound (session_place w.state n) x.1)) y

  -- rule 4: its rows stand through expiry
  stale_as : (now n : ℕ) → not_live (expire now w.state) n ≡ false → stale_for p.cache p.book n ≡ any (differs w.register n) (expire now w.state).rows
  unfolding stale_for
  stale_as now n e = rw h.says (any-differs_as (registered p.book) w.register h.records.register n w.state.rows ∙ sym (differs-expired w.register now w.state n e))

  rule_of_lem : (now : ℕ) (c : Command) (v : Value) → rule_of p.cache p.book c v (word_of (step w.state now c v).answer) ≡ broken_two w (command now c v)
  rule_of_lem now Begin v = refl
  rule_of_lem now (Get n k) v = refl
  rule_of_lem now (Fill t k) v = under (eqb (word_of (step w.state now (Fill t k) v).answer) STORED) _ _ 1 (two_as now t k v)
  rule_of_lem now (Quar n k d) v = refl
  rule_of_lem now (Stage n i k) v = refl
  rule_of_lem now (Delta n i k o) v = refl
  rule_of_lem now (Validate n m) v = refl
  rule_of_lem now (Done n) v = under (eqb (word_of (step w.state now (Done n) v).answer) DONE) (stale_for p.cache p.book n) _ 4 (λ e. stale_as now n (done_live w.state now n v e))
  rule_of_lem now (Undo n) v = under (eqb (word_of (step w.state now (Undo n) v).answer) UNDONE) (wrote_for p.cache p.book n) _ 3 (λ e. wrote_as n (was_live now w.state n (undone_live w.state now n v e)))
  rule_of_lem now (Evict k) v = refl
  rule_of_lem now Tick v = refl

  pub rule_as : (e : Event) → rule_at p e ≡ broken_two w e
  unfolding commands writes may_write
  rule_as (command now c v) = ap (λ (a : Answer). rule_of p.cache p.book c v (word_of a)) (ran_answer now c v) ∙ rule_of_lem now c v
  rule_as (write n k v) = rw (h.formed, h.says)

  after-says : (now : ℕ) (c : Command) (v : Value) → EventBytes (command now c v) → decode (ran p.cache now c v).bytes ≡ (step w.state now c v).after
  after-says now c v x = decode-ran p.cache now c v x h.formed ∙ ap (λ (s : State). (step s now c v).after) h.says

  pub tied_next : (e : Event) → EventBytes e → Readable e → Tied (after p e) (next w e)
  unfolding commands writes marked commanded written
  tied_next (command now c v) x y = record {
    formed = formed_kept p.cache now c v x h.formed;
    says = after-says now c v x;
    records = recorded-counted _ _ _ (rw (ran_answer now c v) (recorded-commanded p.book w h.records (sound_means w.state tied_sound).orderly c (step w.state now c v) (moves_step w.state now c v)
        (sym (ap sound (after-says now c v x)) ∙ (formed (ran p.cache now c v).bytes (formed_kept p.cache now c v x h.formed)).sound)));
  }
  tied_next (write n k v) x y = record {
    formed = h.formed;
    says = h.says;
    records = recorded-counted _ _ _ (rw (h.formed, h.says) (recorded-written p.book w h.records tied_sound n k v y.0 y.1));
  }

-- a line that is only counted, as one that is UNREADABLE
pub tied_counted : (p : Memory) (w : World) (rule : ℕ) → Tied p w → Tied (record { cache = p.cache; book = counted p.book rule }) w
tied_counted p w rule h = record { formed = h.formed; says = h.says; records = recorded-counted p.book w rule h.records }

-- Every run

tied_run : (p : Memory) (w : World) → Tied p w → (es : List Event) → AllBytes es → AllReadable es → Tied (through p es) (run w es)
tied_run p w h [] x y = h
tied_run p w h (e ∷ es) x y = tied_run (after p e) (next w e) (tied_next p w h e x.0 y.0) es x.1 y.1

column_as : (p : Memory) (w : World) → Tied p w → (es : List Event) → AllBytes es → AllReadable es → column p es ≡ verdicts_two w es
column_as p w h [] x y = refl
column_as p w h (e ∷ es) x y =
    ap (λ (n : ℕ). n ∷ column (after p e) es) (rule_as p w h e)
    ∙ ap (λ (l : List ℕ). broken_two w e ∷ l) (column_as (after p e) (next w e) (tied_next p w h e x.0 y.0) es x.1 y.1)

readable_before : (es fs : List Event) → AllReadable (es ++ fs) → AllReadable es
readable_before = front_kept AllReadable tt (λ e es gs x. (x.1, λ a. (x.0, a)))

-- START

-- a book of zeros is new, and stays so while lines are only counted; READY sets only its flag
pub new-zeros : NewBook (zeros book_size)
new-zeros = record { size = length-replicate {A = ℕ} book_size 0; empty = Laws.registered-new book_size; unmarked = λ i f. Laws.mark-new book_size i }

new_as : (b c : List ℕ) → length c ≡ book_size → ((k : ℕ) → registered c k ≡ registered b k) → ((i : ℕ) → mark c i ≡ mark b i) → NewBook b → NewBook c
new_as b c size register marks h = record { size = size; empty = λ k. register k ∙ h.empty k; unmarked = λ i f. marks i ∙ h.unmarked i f }

pub new-counted : (b : List ℕ) (rule : ℕ) → NewBook b → NewBook (counted b rule)
new-counted b rule h = new_as b (counted b rule) (Laws.length-counted b h.size rule) (Laws.registered-counted b h.size rule) (Laws.mark-counted b h.size rule) h

new-started : (b : List ℕ) → NewBook b → NewBook (with_started b)
new-started b h = new_as b (with_started b) (Laws.length-started b h.size) (Laws.registered-started b h.size) (Laws.mark-started b h.size) h

recorded-new : (b : List ℕ) (read_life write_life : ℕ) → NewBook b → Recorded b (fresh_world read_life write_life)
unfolding fresh
recorded-new b read_life write_life h = record {
  size = h.size;
  register = h.empty;
  grants = λ k l e. Views.fresh_lease read_life write_life k l e;
  marks = λ i x e. Views.fresh_session read_life write_life i x e;
  below = λ i f. let z = h.unmarked i f in omega arith;
  wrote = λ n e. clash false e refl;
}

module _ (x b : List ℕ) (read_life write_life : ℕ) (ready : (start_of x read_life write_life).answer ≡ Answer.Ready) (new : NewBook b) where
  abbrev p₀ : Memory
  p₀ = started_memory x b read_life write_life

  abbrev w₀ : World
  w₀ = fresh_world read_life write_life

  pub tied_started : Tied p₀ w₀
  unfolding begins
  tied_started = record {
    formed = ready_formed x read_life write_life ready;
    says = ready_decodes x read_life write_life ready;
    records = recorded-counted _ w₀ 0 (rw ready (recorded-new (with_started b) read_life write_life (new-started b new)));
  }

  -- the column is the machine's verdicts, rule 1 in its two-value form
  pub column-verdicts : (es : List Event) → AllBytes es → AllReadable es → column p₀ es ≡ verdicts_two w₀ es
  column-verdicts = column_as p₀ w₀ tied_started

  -- so it is 0 on every line exactly if the rules are kept
  pub column_kept : (es : List Event) → AllBytes es → AllReadable es → all_zero (column p₀ es) ≡ true → AllKeptTwo w₀ es
  column_kept es u y e = all_kept_two_of w₀ es (sym (ap all_zero (column-verdicts es u y)) ∙ e)

  pub kept_column : (es : List Event) → AllBytes es → AllReadable es → AllKeptTwo w₀ es → all_zero (column p₀ es) ≡ true
  kept_column es u y h = ap all_zero (column-verdicts es u y) ∙ all_kept_two_unbroken w₀ es (orderly_fresh read_life write_life) h

  -- a run whose column is all 0 has demand 3 at each moment: after each first part of it
  pub zeros_promised : (es fs : List Event) → AllBytes (es ++ fs) → AllReadable (es ++ fs) → all_zero (column p₀ (es ++ fs)) ≡ true → Promised (through p₀ es) (run w₀ es)
  zeros_promised es fs u y e =
      let h = tied_run p₀ w₀ tied_started es (all_bytes_before es fs u) (readable_before es fs y) in
      tied_promised (through p₀ es) (run w₀ es) h (demand_3 read_life write_life es fs (two_all_kept read_life write_life (es ++ fs) (column_kept (es ++ fs) u y e)))
