-- What the acts hand back is what is said of the line: a rule by the word at which it counts, a grant by its key, and an answer by its numbers.
use Rattle.std.specs.Prelude.{if◌then◌else◌}
use Prim.Native.Nat.{ℕ}
use mathlib.Core.Path.{◌≡◌, refl, sym, ◌∙◌}
use mathlib.Core.Bool.{Bool, true, false, ◌||◌}
use mathlib.Core.List.{List}
use lib.Dec.{eqb}
use borrow.Author.Tests.{eq-eqb, ne_eqb}
use Rattle.lent.specs.Tables.{same}
use Rattle.lent.proofs.Choices.{if_same, if_and, if_and_not}
use Rattle.machine.specs.Sizes.{key_count}
use Rattle.machine.specs.State.{Value}
use Rattle.machine.specs.Words.{word_of, READY, HIT, LEASE, STORED, DONE, UNDONE}
use Rattle.machine.specs.declared.Answer.{Answer}
use Rattle.machine.specs.declared.Command.{Command}
use Rattle.machine.specs.declared.Command.TheVariants.{Begin, Get, Fill, Quar, Stage, Delta, Validate, Done, Undo, Evict, Tick}
use Rattle.layout.specs.WellFormed.{well_formed}
use Rattle.startup.specs.Start.{Reply, start_of}
use Rattle.words.specs.Numbers.{REFUSED, place_of, numbers_of}
use Rattle.words.specs.declared.Numbers.{Numbers}
use Rattle.cache.specs.Run.{ran}
use Rattle.replies.specs.Replies.{UNREADABLE}
use Rattle.book.specs.Book.{with_started, registered, granted, with_granted}
use Rattle.risks.specs.Risks.{wrote_for, stale_for}
use Rattle.risks.specs.Tests.{risk_of}
use Rattle.rules.specs.Rules.{Said, answered, begins, rule_of, noted, commands}
use Rattle.rules.specs.Says.{told, told_of, Says}
use Rattle.rules.specs.Tests.{watched, asks_for}
use Rattle.rules.specs.declared.Said.{Said as Told}
use Rattle.rules.proofs.Hits.{HitInside, ran_inside, start_no_hit}

-- ---- the rule broken, by the word at which it counts, which is not that of a refusal

rule_is : (x b : List ℕ) (c : Command) (v : Value) (w : ℕ) → (rule_of x b c v w ≡ (if eqb w (watched c) then risk_of x b c v else 0)) × (eqb REFUSED (watched c) ≡ false)
rule_is x b Begin v w = (sym (if_same (eqb w UNREADABLE) 0), refl)
rule_is x b (Get n k) v w = (sym (if_same (eqb w UNREADABLE) 0), refl)
rule_is x b (Fill t k) v w = (if_and_not (eqb w STORED) (same v (registered b k) || same v (granted b k)) 1 0, refl)
rule_is x b (Quar n k d) v w = (sym (if_same (eqb w UNREADABLE) 0), refl)
rule_is x b (Stage n i k) v w = (sym (if_same (eqb w UNREADABLE) 0), refl)
rule_is x b (Delta n i k o) v w = (sym (if_same (eqb w UNREADABLE) 0), refl)
rule_is x b (Validate n m) v w = (sym (if_same (eqb w UNREADABLE) 0), refl)
rule_is x b (Done n) v w = (if_and (eqb w DONE) (stale_for x b n) 4 0, refl)
rule_is x b (Undo n) v w = (if_and (eqb w UNDONE) (wrote_for x b n) 3 0, refl)
rule_is x b (Evict k) v w = (sym (if_same (eqb w UNREADABLE) 0), refl)
rule_is x b Tick v w = (sym (if_same (eqb w UNREADABLE) 0), refl)

-- on bytes that are not well formed what would be broken does not matter
rule_told : (x b : List ℕ) (now : ℕ) (c : Command) (v : Value) (risk w : ℕ) → w ≡ word_of (ran x now c v).answer → (well_formed x ≡ true → risk ≡ risk_of x b c v)
    → (if eqb w (watched c) then risk else 0) ≡ rule_of x b c v w
unfolding ran
rule_told x b now c v risk w e f = go (well_formed x) refl ∙ sym (rule_is x b c v w).0
  where
    go : (t : Bool) → well_formed x ≡ t → (if eqb w (watched c) then risk else 0) ≡ (if eqb w (watched c) then risk_of x b c v else 0)
    go true q = rw (f q)
    go false q = let z : w ≡ REFUSED = e ∙ rw q in rw (z, (rule_is x b c v w).1)

-- ---- a grant, by its key

no_key : (b : List ℕ) (v : Value) → with_granted b key_count v ≡ b
unfolding with_granted
no_key b v = refl

noted_other : (b : List ℕ) (w : ℕ) → b ≡ (if eqb w LEASE then with_granted b key_count (registered b key_count) else b)
noted_other b w = rw (no_key b (registered b key_count)) (sym (if_same (eqb w LEASE) b))

pub noted_is : (b : List ℕ) (c : Command) (w : ℕ) → noted b c w ≡ (if eqb w LEASE then with_granted b (asks_for c) (registered b (asks_for c)) else b)
noted_is b Begin w = noted_other b w
noted_is b (Get n k) w = refl
noted_is b (Fill t k) w = noted_other b w
noted_is b (Quar n k d) w = noted_other b w
noted_is b (Stage n i k) w = noted_other b w
noted_is b (Delta n i k o) w = noted_other b w
noted_is b (Validate n m) w = noted_other b w
noted_is b (Done n) w = noted_other b w
noted_is b (Undo n) w = noted_other b w
noted_is b (Evict k) w = noted_other b w
noted_is b Tick w = noted_other b w

pub noted-none : (b : List ℕ) (c : Command) (w : ℕ) → (w ≡ LEASE → ⊥) → b ≡ noted b c w
noted-none b c w h = rw (noted_is b c w, ne_eqb w LEASE h)

pub noted-grant : (b : List ℕ) (c : Command) (w k : ℕ) → w ≡ LEASE → k ≡ asks_for c → with_granted b k (registered b k) ≡ noted b c w
noted-grant b c w k h e = rw (noted_is b c w, eq-eqb w LEASE h, e)

-- ---- an answer by its numbers

-- a word that is not HIT hands out no value
pub says_unless_hit : (s : Said) (at : ℕ) → (s.word ≡ HIT → ⊥) → Says s at (record { word = s.word; detail = s.detail; at = at; rule = s.rule }) s.cache s.book
says_unless_hit s at h = record {
  word = refl;
  detail = refl;
  place = refl;
  rule = refl;
  cache = refl;
  book = refl;
  value = λ w. absurd (h w);
  inside = λ w. absurd (h w);
  short = λ w. absurd (h w);
}

says-answered : (r : Reply) (rule : ℕ) (b : List ℕ) → HitInside r.answer → Says (answered r rule b) (place_of r.answer) (told_of r.answer rule) r.bytes b
says-answered r rule b h = record {
  word = refl;
  detail = refl;
  place = refl;
  rule = refl;
  cache = refl;
  book = refl;
  value = λ e. rw (eq-eqb (word_of r.answer) HIT e);
  inside = λ e. (h e).inside;
  short = λ e. (h e).short;
}

module _ (x b : List ℕ) (read_life write_life : ℕ) (a : Answer) (x' : List ℕ) (e : a ≡ (start_of x read_life write_life).answer) (f : x' ≡ (start_of x read_life write_life).bytes) where
  abbrev Started : List ℕ → Type 0
  Started b' = Says (begins x b read_life write_life) (place_of (start_of x read_life write_life).answer) (told_of a 0) x' b'

  begin_says : (b' : List ℕ) → b' ≡ (if eqb (word_of a) READY then with_started b else b) → Started b'
  unfolding begins
  begin_says b' g = rw (g, f, e) (says-answered (start_of x read_life write_life) 0 (if eqb (word_of (start_of x read_life write_life).answer) READY then with_started b else b) (λ w. absurd (start_no_hit x read_life write_life w)))

  pub begin_refused : (word_of a ≡ READY → ⊥) → Started b
  begin_refused h = begin_says b (rw (ne_eqb (word_of a) READY h))

  pub begin_ready : word_of a ≡ READY → (b' : List ℕ) → b' ≡ with_started b → Started b'
  begin_ready h b' g = begin_says b' (g ∙ rw (eq-eqb (word_of a) READY h))

pub concluded : (b b' : List ℕ) (c : Command) (a : Answer) (n : Numbers) (risk rule : ℕ) (t : Told)
    → n ≡ numbers_of a → b' ≡ noted b c n.word → rule ≡ (if eqb n.word (watched c) then risk else 0) → t ≡ told n rule
    → (t ≡ told_of a (if eqb (word_of a) (watched c) then risk else 0)) × (b' ≡ noted b c (word_of a))
concluded b b' c a n risk rule t g h q o = rw (o, q, h, g) (refl, refl)

pub command_says : (x b : List ℕ) (now : ℕ) (c : Command) (v : Value) (a : Answer) (x' b' : List ℕ) (risk : ℕ) (t : Told)
    → (well_formed x ≡ true → risk ≡ risk_of x b c v) → (a ≡ (ran x now c v).answer) × (x' ≡ (ran x now c v).bytes)
    → (t ≡ told_of a (if eqb (word_of a) (watched c) then risk else 0)) × (b' ≡ noted b c (word_of a))
    → Says (commands x b now c v) (place_of (ran x now c v).answer) t x' b'
unfolding commands
command_says x b now c v a x' b' risk t f e g =
    let r = rule_told x b now c v risk (word_of (ran x now c v).answer) refl f in
    rw (g.0, g.1, e.1, e.0, r) (says-answered (ran x now c v) (rule_of x b c v (word_of (ran x now c v).answer)) (noted b c (word_of (ran x now c v).answer)) (ran_inside x now c v))
