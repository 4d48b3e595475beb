-- The test of the rules is right: an event breaks no rule by the test exactly if it keeps the rules, in a world whose tables have
-- their shape. Each direction reads one rule: equal values are `same`, what is found by number is there, a word belongs to one answer.
use Rattle.std.specs.Prelude.{if◌then◌else◌}
use mathlib.Core.Path.{◌≡◌, refl, ap}
use mathlib.Core.Bool.{Bool, true, false, not, ◌&&◌, or-true}
use mathlib.Core.Logic.{◌⊎◌, inl, inr}
use mathlib.Core.List.{List, [], ◌∷◌, Memᴰ}
use mathlib.Core.Option.{Option, none, some}
use Prim.Native.Nat.{ℕ, ◌<◌}
use native.Mathlib.Omega.{arith}
use borrow.Author.Tests.{eqb-true, eq-eqb, not-false, not-true}
use lib.Dec.{eqb}
use lib.ListN.{get_or}
use Rattle.lent.specs.Tables.{same, all_zero}
use Rattle.lent.proofs.Equal.{same_eq, eq_same, zero_and_rest}
use Rattle.lent.proofs.Choices.{and_yes, case_of, clash, if_ind}
use Rattle.machine.specs.Tables.{any}
use Rattle.machine.specs.Words.{word_of, STORED, DONE, UNDONE}
use Rattle.machine.specs.Session.{sealed_life}
use Rattle.machine.specs.State.{Value, Slot, no_session, session, nothing, staged, DROP, Row, no_row, row, State, free, free_row, session_of, row_of, lease_on}
use Rattle.machine.specs.Refusals.{sealed_in, sealed_slot, refusal}
use Rattle.machine.specs.Expiry.{expire}
use Rattle.machine.specs.Effects.{Outcome, matches, fills, effect}
use Rattle.machine.specs.Step.{settled, step}
use Rattle.machine.specs.World.{Event, command, write, World, next, HasRow, Sealed, Rules, expired, Kept, AllKept}
use Rattle.machine.specs.Test.{differs, broken_by, broken, verdicts}
use Rattle.machine.specs.WellFormed.{Orderly}
use Rattle.machine.specs.declared.Refusal.{Refusal}
use Rattle.machine.specs.declared.Life.{Life}
use Rattle.machine.specs.declared.Answer.{Answer}
use Rattle.machine.specs.declared.Command.{Command}
use Rattle.machine.specs.declared.Command.TheVariants.{Begin, Get, Fill, Quar, Stage, Delta, Validate, Done, Undo, Evict, Tick}
use Rattle.machine.proofs.Views
use Rattle.machine.proofs.Accepted.{sealed_session, found_session, row_of_lem, found_row}
use Rattle.machine.proofs.Shape.{orderly_next}

any-mem : (v : Value) (l : List Value) → any (same v) l ≡ true → Memᴰ v l
any-mem v [] e = clash false e refl
any-mem v (x ∷ l) e = go (case_of (same v x)) (any-mem v l)
  where
    go : (same v x ≡ true) ⊎ (same v x ≡ false) → (any (same v) l ≡ true → Memᴰ v l) → Memᴰ v (x ∷ l)
    go (inl q) f = Memᴰ.head (same_eq v x q)
    go (inr q) f = Memᴰ.tail (f (rw q at e))

mem-any : (v : Value) (l : List Value) → Memᴰ v l → any (same v) l ≡ true
mem-any v [] x' = elim x' [ ]
mem-any v (x ∷ l) (Memᴰ.head e) = rw (eq_same v x e)
mem-any v (x ∷ l) (Memᴰ.tail m) = rw (mem-any v l m) (or-true (same v x))

-- A rule under its answer: b is the test of the answer, c that the rule is broken, n the rule's number

rule_unbroken : (b c : Bool) (n : ℕ) → 0 < n → (if b && c then n else 0) ≡ 0 → b ≡ true → c ≡ false
rule_unbroken true true n h e p = absurd (omega arith)
rule_unbroken true false n h e p = refl
rule_unbroken false c n h e p = clash false p refl

verdict_zero : (b c : Bool) (n : ℕ) → (b ≡ true → c ≡ false) → (if b && c then n else 0) ≡ 0
verdict_zero true c n f = rw (f refl)
verdict_zero false c n f = refl

-- the word of FILL's, DONE's and UNDO's outcome is that of one answer
Says : Answer → Outcome → Type 0
Says a r = eqb (word_of r.answer) (word_of a) ≡ true → r.answer ≡ a

says-settled : (a : Answer) (s : State) (now : ℕ) (o : Option Refusal) (r : Outcome) → eqb 0 (word_of a) ≡ false → Says a r → Says a (settled s now o r)
unfolding Says settled
says-settled a s now none r q f = f
says-settled a s now (some e) r q f = λ p. clash (eqb 0 (word_of a)) p q

module _ (s : State) (now : ℕ) (v : Value) where
  says-step : (a : Answer) (c : Command) → eqb 0 (word_of a) ≡ false → Says a (effect (expire now s) now c v) → Says a (step s now c v)
  unfolding step
  says-step a c = says-settled a s now (refusal (expire now s) now c v) (effect (expire now s) now c v)

  says_stored : (t k : ℕ) → Says Answer.Stored (step s now (Fill t k) v)
  unfolding Says effect fills
  says_stored t k = says-step Answer.Stored (Fill t k) refl (if_ind (Says Answer.Stored) (matches t (lease_on (expire now s) k)) (λ m p. refl) (λ m p. clash false p refl))

  says_done : (n : ℕ) → Says Answer.Done (step s now (Done n) v)
  unfolding Says effect
  says_done n = says-step Answer.Done (Done n) refl (λ p. refl)

  says_undone : (n : ℕ) → Says Answer.Undone (step s now (Undo n) v)
  unfolding Says effect
  says_undone n = says-step Answer.Undone (Undo n) refl (λ p. refl)

-- Rule 4

agreeing : (register : ℕ → Value) (n : ℕ) (rs : List Row) → any (differs register n) rs ≡ false → (i k d : ℕ) (u : Value) → get_or rs i no_row ≡ row n k d (staged u) → u ≡ register k
agreeing register n rs e i k d u p = elim (case_of (same u (register k))) [
  | inl q ↦ same_eq u (register k) q
  | inr q ↦ clash (any (differs register n) rs) (Views.any_at (differs register n) no_row rs i refl (rw (p, eq-eqb n n refl, q))) e
]

differing : (register : ℕ → Value) (n : ℕ) (r : Row) → differs register n r ≡ true → (k : ℕ) × (d : ℕ) × (u : Value) × (r ≡ row n k d (staged u)) × (same u (register k) ≡ false)
differing register n no_row e = clash false e refl
differing register n (row m k d nothing) e = clash false e refl
differing register n (row m k d DROP) e = clash false e refl
differing register n (row m k d (staged u)) e = (
  k,
  d,
  u,
  ap (λ (x : ℕ). row x k d (staged u)) (eqb-true m n (and_yes (eqb m n) (not (same u (register k))) e).0),
  not-true (same u (register k)) (and_yes (eqb m n) (not (same u (register k))) e).1,
)

none-differs : (register : ℕ → Value) (n : ℕ) (rs : List Row) → ((i k d : ℕ) (u : Value) → get_or rs i no_row ≡ row n k d (staged u) → u ≡ register k) → any (differs register n) rs ≡ false
none-differs register n rs f = elim (case_of (any (differs register n) rs)) [
  | inl q ↦
      (let p = Views.any_place (differs register n) no_row rs q in
      let r = differing register n (get_or rs p.0 no_row) p.1 in
      clash (same r.2 (register r.0)) (eq_same r.2 (register r.0) (f p.0 r.0 r.1 r.2 r.3)) r.4)
  | inr q ↦ q
]

-- Rule 2

sealed_life_lem : (p : Life) → sealed_life p ≡ true → p ≡ Life.Sealed
sealed_life_lem Life.Sealed e = refl
sealed_life_lem (Life.Open t) e = clash false e refl

sealed_live : (y : Slot) → sealed_slot y ≡ true → free y ≡ false
sealed_live no_session e = clash false e refl
sealed_live (session x) e = refl

sealed_is : (s : State) (n : ℕ) → sealed_in s n ≡ true → Sealed s n
sealed_is s n e = sealed_session s n (sealed_live (session_of s n) e) (λ x q. sealed_life_lem x.life (rw q at e))

-- numbers are unique, so the session found by its number is the sealed one
is_sealed_lem : (s : State) (n : ℕ) → Orderly s → Sealed s n → sealed_in s n ≡ true
is_sealed_lem s n h w = rw (found_session s h n w.place w.live w.is w.number, w.life)

-- Each event

rules_of : (w : World) (c : Command) (v : Value) (a : Answer) → broken_by w c v a ≡ 0 → Rules w c v a
rules_of w Begin v a e = tt
rules_of w (Get n k) v a e = tt
rules_of w (Fill t k) v a e = λ p. any-mem v (w.since t k) (not-false _ (rule_unbroken (eqb (word_of a) STORED) (not (any (same v) (w.since t k))) 1 (omega arith) e (rw p)))
rules_of w (Quar n k d) v a e = tt
rules_of w (Stage n i k) v a e = tt
rules_of w (Delta n i k o) v a e = tt
rules_of w (Validate n m) v a e = tt
rules_of w (Done n) v a e = λ p. agreeing w.register n w.state.rows (rule_unbroken (eqb (word_of a) DONE) (any (differs w.register n) w.state.rows) 4 (omega arith) e (rw p))
rules_of w (Undo n) v a e = λ p. rule_unbroken (eqb (word_of a) UNDONE) (w.wrote n) 3 (omega arith) e (rw p)
rules_of w (Evict k) v a e = tt
rules_of w Tick v a e = tt

pub kept_of : (w : World) (e : Event) → broken w e ≡ 0 → Kept w e
kept_of w (command now c v) e = rules_of (expired w now) c v (step w.state now c v).answer e
kept_of w (write n k v) e = go (case_of (sealed_in w.state n)) (case_of (free_row (row_of w.state n k)))
  where
    go : (sealed_in w.state n ≡ true) ⊎ (sealed_in w.state n ≡ false) → (free_row (row_of w.state n k) ≡ true) ⊎ (free_row (row_of w.state n k) ≡ false) → Sealed w.state n × HasRow w.state.rows n k
    go (inl p) (inr q) = (sealed_is w.state n p, (let r = row_of_lem w.state n k q in record { place = r.0; kind = _; what = r.1; is = r.2 }))
    go (inl p) (inl q) = absurd (let z : ◌≡◌ {A = ℕ} 2 0 = rw (p, q) at e in omega arith)
    go (inr p) q = absurd (let z : ◌≡◌ {A = ℕ} 2 0 = rw p at e in omega arith)

pub kept_unbroken : (w : World) (e : Event) → Orderly w.state → Kept w e → broken w e ≡ 0
unfolding Says
kept_unbroken w (command now Begin v) h rule = refl
kept_unbroken w (command now (Get n k) v) h rule = refl
kept_unbroken w (command now (Fill t k) v) h rule = verdict_zero (eqb (word_of (step w.state now (Fill t k) v).answer) STORED) (not (any (same v) (w.since t k))) 1
    (λ p. rw (mem-any v (w.since t k) (rule (says_stored w.state now v t k p))))
kept_unbroken w (command now (Quar n k d) v) h rule = refl
kept_unbroken w (command now (Stage n i k) v) h rule = refl
kept_unbroken w (command now (Delta n i k o) v) h rule = refl
kept_unbroken w (command now (Validate n m) v) h rule = refl
kept_unbroken w (command now (Done n) v) h rule = verdict_zero (eqb (word_of (step w.state now (Done n) v).answer) DONE) (any (differs w.register n) (expire now w.state).rows) 4
    (λ p. none-differs w.register n (expire now w.state).rows (rule (says_done w.state now v n p)))
kept_unbroken w (command now (Undo n) v) h rule = verdict_zero (eqb (word_of (step w.state now (Undo n) v).answer) UNDONE) (w.wrote n) 3 (λ p. rule (says_undone w.state now v n p))
kept_unbroken w (command now (Evict k) v) h rule = refl
kept_unbroken w (command now Tick v) h rule = refl
kept_unbroken w (write n k v) h rule = rw (is_sealed_lem w.state n h rule.0, found_row w.state n k rule.1)

-- Each run

-- of a test of events, each in its turn, the verdicts of a run are all 0 exactly if the run is kept by what the test means
module _ (test : World → Event → ℕ) (all : World → List Event → List ℕ) (none_left : (w : World) → all w [] ≡ []) (one_more : (w : World) (e : Event) (es : List Event) → all w (e ∷ es) ≡ test w e ∷ all (next w e) es)
    (Means : World → List Event → Type 0) where
  pub means_of : ((w : World) → Means w []) → ((w : World) (e : Event) (es : List Event) → test w e ≡ 0 → Means (next w e) es → Means w (e ∷ es)) → (w : World) (es : List Event) → all_zero (all w es) ≡ true → Means w es
  means_of end more w [] z = end w
  means_of end more w (e ∷ es) z = let b = zero_and_rest (test w e) (all (next w e) es) (rw (one_more w e es) at z) in more w e es b.0 (means_of end more (next w e) es b.1)

  pub zero_of : ((w : World) (e : Event) (es : List Event) → Orderly w.state → Means w (e ∷ es) → (test w e ≡ 0) × Means (next w e) es) → (w : World) (es : List Event) → Orderly w.state → Means w es → all_zero (all w es) ≡ true
  unfolding all_zero
  zero_of told w [] h m = rw (none_left w)
  zero_of told w (e ∷ es) h m = let b = told w e es h m in rw (one_more w e es, b.0) (zero_of told (next w e) es (orderly_next w e h) b.1)

pub all_kept_of : (w : World) (es : List Event) → all_zero (verdicts w es) ≡ true → AllKept w es
all_kept_of = means_of broken verdicts (λ w. refl) (λ w e es. refl) AllKept (λ w. tt) (λ w e es z k. (kept_of w e z, k))

pub all_kept_unbroken : (w : World) (es : List Event) → Orderly w.state → AllKept w es → all_zero (verdicts w es) ≡ true
all_kept_unbroken = zero_of broken verdicts (λ w. refl) (λ w e es. refl) AllKept (λ w e es h k. (kept_unbroken w e h k.0, k.1))
