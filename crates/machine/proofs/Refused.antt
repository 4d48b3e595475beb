-- Refusals: a refused command changes nothing, not even the clock, a number is given exactly when its test is the first that holds, and the numbers
-- stand in the order of the document's table. An accepted command is answered with one of its own words, so no effect looks like a refusal.
use mathlib.Core.Path.{◌≡◌, refl, ap, ◌∙◌}
use mathlib.Core.Bool.{Bool, true, false}
use mathlib.Core.Logic.{◌⊎◌, inl, inr}
use mathlib.Core.List.{List, [], ◌∷◌, map}
use mathlib.Core.Option.{Option, none, some}
use Prim.Native.Nat.{ℕ, zero, suc, ◌<◌}
use native.Mathlib.Omega.{arith}
use lib.Dec.{eqb, ltb}
use lib.ListN.{length, get_or}
use borrow.Author.Tests.{eqb-true}
use Rattle.lent.proofs.Choices.{case_of, clash, if_ind}
use Rattle.machine.specs.Tables.{mem, first, is_none}
use Rattle.machine.specs.Words.{word_of, words_of, refusal_number, STATE}
use Rattle.machine.specs.Decision.{grants}
use Rattle.machine.specs.State.{Value, Staged, nothing, staged, DROP, State, free_row, kind_of, staged_in, row_of, cached, lease_on}
use Rattle.machine.specs.Expiry.{expire}
use Rattle.machine.specs.Refusals.{decide, blocked, Sight, sight, count_of, refusals, refusal, start_refusals, show_refusals}
use Rattle.machine.specs.Effects.{Outcome, begins, leased, missed, looked, matches, fills, asks, staged_answer, changed, stages, effect}
use Rattle.machine.specs.Step.{settled, step, started, start, showing, show}
use Rattle.machine.specs.Statements.{First, tests, ascend}
use Rattle.machine.specs.declared.Refusal.{Refusal}
use Rattle.machine.specs.declared.Answer.{Answer}
use Rattle.machine.specs.declared.Command.{Command}
use Rattle.machine.specs.declared.Command.TheVariants.{Begin, Get, Fill, Quar, Stage, Delta, Validate, Done, Undo, Evict, Tick}
use Rattle.machine.proofs.Views.{no_some, some_eq, answers_differ}

-- The first test that holds

first_is : (l : List (Bool × Refusal)) (e : Refusal) → first l ≡ some e → First l e
first_is [] e p = no_some e p
first_is (x ∷ l) e p = go (case_of x.0) (first_is l e)
  where
    up : (j : ℕ) (f : First l e) → x.0 ≡ false → j < suc f.place → (get_or (x ∷ l) j (false, STATE)).0 ≡ false
    up zero f q h = q
    up (suc j) f q h = f.before j (omega arith)

    go : (x.0 ≡ true) ⊎ (x.0 ≡ false) → (first l ≡ some e → First l e) → First (x ∷ l) e
    go (inl q) f = record { place = 0; holds = q; number = some_eq x.1 e (rw q at p); before = λ j h. absurd (omega arith) }
    go (inr q) f = let g = f (rw q at p) in record { place = suc g.place; holds = g.holds; number = g.number; before = λ j h. up j g q h }

is_first : (l : List (Bool × Refusal)) (e : Refusal) → First l e → first l ≡ some e
is_first l e f = go l f.place f.holds f.number f.before
  where
    go : (k : List (Bool × Refusal)) (i : ℕ) → (get_or k i (false, STATE)).0 ≡ true → (get_or k i (false, STATE)).1 ≡ e → ((j : ℕ) → j < i → (get_or k j (false, STATE)).0 ≡ false) → first k ≡ some e
    go [] i h m b = clash false h refl
    go (x ∷ k) zero h m b = rw (h, m)
    go (x ∷ k) (suc i) h m b = rw (b 0 (omega arith)) (go k i h m (λ j q. b (suc j) (omega arith)))

-- The words of an accepted command

Worded : Command → Outcome → Type 0
Worded c r = mem (word_of r.answer) (words_of c) ≡ true

module _ (s : State) (now : ℕ) (v : Value) where
  get_worded : (n k : ℕ) (o : Option Sight) → Worded (Get n k) (looked s now n k o)
  unfolding Worded looked missed leased
  get_worded n k (some x) = refl
  get_worded n k none = if_ind (Worded (Get n k)) (free_row (row_of s n k)) (λ p. if_ind (Worded (Get n k)) (blocked s k) (λ q. refl) (λ q. refl)) (λ p. refl)

  delta_word : (c : Command) (u : Staged) → mem (word_of Answer.Staged) (words_of c) ≡ true → mem (word_of Answer.Dropped) (words_of c) ≡ true → mem (word_of (staged_answer u)) (words_of c) ≡ true
  delta_word c nothing a b = b
  delta_word c (staged w) a b = a
  delta_word c DROP a b = b

  effect_worded : (c : Command) → Worded c (effect s now c v)
  unfolding Worded effect begins fills asks stages
  effect_worded Begin = refl
  effect_worded (Get n k) = get_worded n k (sight s n k)
  effect_worded (Fill t k) = if_ind (Worded (Fill t k)) (matches t (lease_on s k)) (λ p. refl) (λ p. refl)
  effect_worded (Quar n k d) = if_ind (Worded (Quar n k d)) (eqb (kind_of (row_of s n k)) d) (λ p. refl) (λ p. if_ind (Worded (Quar n k d)) (grants (decide s k d)) (λ q. refl) (λ q. refl))
  effect_worded (Stage n i k) = if_ind (Worded (Stage n i k)) (ltb i (count_of s n)) (λ p. refl) (λ p. refl)
  effect_worded (Delta n i k o) = if_ind (Worded (Delta n i k o)) (ltb i (count_of s n)) (λ p. refl) (λ p. delta_word (Delta n i k o) (changed o v (staged_in (row_of s n k)) (cached s k)) refl refl)
  effect_worded (Validate n m) = if_ind (Worded (Validate n m)) (eqb m (count_of s n)) (λ p. refl) (λ p. refl)
  effect_worded (Done n) = refl
  effect_worded (Undo n) = refl
  effect_worded (Evict k) = if_ind (Worded (Evict k)) (is_none (cached s k)) (λ p. refl) (λ p. refl)
  effect_worded Tick = refl

-- no command has the word of a refusal
no_refusal_word : (c : Command) → mem 0 (words_of c) ≡ false
no_refusal_word Begin = refl
no_refusal_word (Get n k) = refl
no_refusal_word (Fill t k) = refl
no_refusal_word (Quar n k d) = refl
no_refusal_word (Stage n i k) = refl
no_refusal_word (Delta n i k o) = refl
no_refusal_word (Validate n m) = refl
no_refusal_word (Done n) = refl
no_refusal_word (Undo n) = refl
no_refusal_word (Evict k) = refl
no_refusal_word Tick = refl

-- so an effect is never answered with one
pub effect_accepts : (s : State) (now : ℕ) (c : Command) (v : Value) → eqb (word_of (effect s now c v).answer) 0 ≡ false
unfolding Worded
effect_accepts s now c v = go (case_of (eqb (word_of (effect s now c v).answer) 0))
  where
    go : (eqb (word_of (effect s now c v).answer) 0 ≡ true) ⊎ (eqb (word_of (effect s now c v).answer) 0 ≡ false) → eqb (word_of (effect s now c v).answer) 0 ≡ false
    go (inr q) = q
    go (inl q) = clash (mem 0 (words_of c)) (rw (eqb-true (word_of (effect s now c v).answer) 0 q) at (effect_worded s now v c)) (no_refusal_word c)

not_refused : (s : State) (now : ℕ) (c : Command) (v : Value) (e : Refusal) → (effect s now c v).answer ≡ Answer.Refused e → ⊥
not_refused s now c v e p = answers_differ (effect s now c v).answer (Answer.Refused e) (effect_accepts s now c v) p

-- The theorems

module _ (s : State) (now : ℕ) (c : Command) (v : Value) where
  -- a refusal, by its number
  refused-by : (o : Option Refusal) (r : Outcome) (e : Refusal) → ((d : Refusal) → r.answer ≡ Answer.Refused d → ⊥) → (settled s now o r).answer ≡ Answer.Refused e → o ≡ some e
  unfolding settled
  refused-by none r e n p = absurd (n e p)
  refused-by (some d) r e n p = let q : d ≡ e = cc in ap (λ (x : Refusal). some x) q

  pub refused-first : (e : Refusal) → (step s now c v).answer ≡ Answer.Refused e → First (tests s now c v) e
  unfolding step refusal
  refused-first e p = first_is (tests s now c v) e (refused-by (refusal (expire now s) now c v) (effect (expire now s) now c v) e (not_refused (expire now s) now c v) p)

  pub first-refused : (e : Refusal) → First (tests s now c v) e → (step s now c v).answer ≡ Answer.Refused e
  unfolding step settled refusal
  first-refused e f = rw (is_first (tests s now c v) e f)

  -- a refused command changes nothing, not even the clock
  pub refused_keeps : (e : Refusal) → (step s now c v).answer ≡ Answer.Refused e → (step s now c v).after ≡ s
  unfolding step settled refusal
  refused_keeps e p = rw (is_first (tests s now c v) e (refused-first e p))

  -- an accepted command is answered with one of its words
  pub accepted_word : first (tests s now c v) ≡ none → mem (word_of (step s now c v).answer) (words_of c) ≡ true
  unfolding step settled refusal Worded
  accepted_word p = rw p (effect_worded (expire now s) now v c)

-- The order of the table: each command's numbers ascend

pub in_order : (s : State) (now : ℕ) (c : Command) (v : Value) → ascend 1 (map (λ x. refusal_number x.1) (tests s now c v)) ≡ true
unfolding refusals
in_order s now Begin v = refl
in_order s now (Get n k) v = refl
in_order s now (Fill t k) v = refl
in_order s now (Quar n k d) v = refl
in_order s now (Stage n i k) v = refl
in_order s now (Delta n i k o) v = refl
in_order s now (Validate n m) v = refl
in_order s now (Done n) v = refl
in_order s now (Undo n) v = refl
in_order s now (Evict k) v = refl
in_order s now Tick v = refl

-- START and SHOW

pub start-refused : (s : State) (r w : ℕ) (e : Refusal) → (start s r w).answer ≡ Answer.Refused e → First (start_refusals r w) e × ((start s r w).after ≡ s)
unfolding start
start-refused s r w e p = go (first (start_refusals r w)) refl p
  where
    go : (o : Option Refusal) → first (start_refusals r w) ≡ o → (started r w o s).answer ≡ Answer.Refused e → First (start_refusals r w) e × ((started r w o s).after ≡ s)
    go none q h = answers_differ Answer.Ready (Answer.Refused e) refl h
    go (some d) q h = let x : d ≡ e = cc in (first_is (start_refusals r w) e (q ∙ ap (λ (y : Refusal). some y) x), refl)

pub show-refused : (s : State) (n k : ℕ) (e : Refusal) → (show s n k).answer ≡ Answer.Refused e → First (show_refusals s n k) e
unfolding show
show-refused s n k e p = go (first (show_refusals s n k)) (sight s n k) refl p
  where
    go : (o : Option Refusal) (x : Option Sight) → first (show_refusals s n k) ≡ o → (showing o x).answer ≡ Answer.Refused e → First (show_refusals s n k) e
    go none none q h = answers_differ Answer.None (Answer.Refused e) refl h
    go none (some x) q h = answers_differ (Answer.Value (length x.value)) (Answer.Refused e) refl h
    go (some d) x q h = let y : d ≡ e = cc in first_is (show_refusals s n k) e (q ∙ ap (λ (z : Refusal). some z) y)

-- and the first that holds is given
pub first-start : (s : State) (r w : ℕ) (e : Refusal) → First (start_refusals r w) e → (start s r w).answer ≡ Answer.Refused e
unfolding start
first-start s r w e f = rw (is_first (start_refusals r w) e f)

pub first-show : (s : State) (n k : ℕ) (e : Refusal) → First (show_refusals s n k) e → (show s n k).answer ≡ Answer.Refused e
unfolding show
first-show s n k e f = rw (is_first (show_refusals s n k) e f)
