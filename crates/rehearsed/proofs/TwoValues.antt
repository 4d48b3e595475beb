-- Rule 1 in its two-value form. Its test is right, since it is the test of the rules in a world that remembers only two values. Where rule 2 was kept
-- by every write so far, all that the register has held since a live lease's grant is what it holds now: a leased key has no row, and rule 2 writes
-- only a key with one. So both forms then say the same of every event.
use Rattle.machine.specs.declared.Refusal.{Refusal}
use Rattle.std.specs.Prelude.{if◌then◌else◌}
use mathlib.Core.Path.{◌≡◌, refl, sym, ap, ◌∙◌}
use mathlib.Core.Bool.{Bool, true, false, not, ◌&&◌, or-false, or_self}
use mathlib.Core.Logic.{inl, inr}
use mathlib.Core.List.Memᴰ
use mathlib.Core.List.{List, [], ◌∷◌, Memᴰ}
use mathlib.Core.Option.{Option, none, some}
use Prim.Native.Nat.{ℕ, ◌≤◌}
use native.Mathlib.Omega.{arith}
use borrow.Author.Tests.{eq-eqb, ne_eqb}
use lib.Dec.{eqb}
use lib.ListN.{length}
use Rattle.lent.specs.Tables.{same, all_zero}
use Rattle.lent.proofs.Choices.{clash, if_ind}
use Rattle.lent.proofs.Runs.{run_gives, run_keeps}
use Rattle.machine.specs.Tables.{any}
use Rattle.machine.specs.Words.{word_of, LEASE, STORED}
use Rattle.machine.specs.State.{Value, Lease, State, lease_on}
use Rattle.machine.specs.Expiry.{expire}
use Rattle.machine.specs.Refusals.{refusal}
use Rattle.machine.specs.Effects.{Outcome, matches, fills, effect}
use Rattle.machine.specs.Step.{settled, step}
use Rattle.machine.specs.World.{Event, command, write, World, fresh_world, since_grant, commanded, written, next, run, HasRow, Kept, AllKept}
use Rattle.machine.specs.Test.{broken}
use Rattle.machine.specs.WellFormed.{Orderly}
use Rattle.machine.specs.declared.Answer.{Answer}
use Rattle.machine.specs.declared.Command.{Command}
use Rattle.machine.specs.declared.Command.TheVariants.{Begin, Get, Fill, Quar, Stage, Delta, Validate, Done, Undo, Evict, Tick}
use Rattle.machine.proofs.Views
use Rattle.machine.proofs.OrderlyKept.{orderly_fresh}
use Rattle.machine.proofs.Shape.{orderly_step}
use Rattle.machine.proofs.Accepted.{matched}
use Rattle.machine.proofs.Frames.{expire_lease}
use Rattle.machine.proofs.Tested.{kept_of, kept_unbroken, means_of, zero_of}
use Rattle.rehearsed.specs.TwoValues.{oldest, two_values, broken_two, verdicts_two, KeptTwo, AllKeptTwo, WriteKept, WritesKept}
use Rattle.rehearsed.proofs.Moves.{Leases, quiet, grant, Moves, moves_step}

-- The test of the two-value form is right: all 0 exactly if the rules are kept

pub all_kept_two_of : (w : World) (es : List Event) → all_zero (verdicts_two w es) ≡ true → AllKeptTwo w es
all_kept_two_of = means_of broken_two verdicts_two (λ w. refl) (λ w e es. refl) AllKeptTwo (λ w. tt) (λ w e es z k. (kept_of (two_values w) e z, k))

pub all_kept_two_unbroken : (w : World) (es : List Event) → Orderly w.state → AllKeptTwo w es → all_zero (verdicts_two w es) ≡ true
all_kept_two_unbroken = zero_of broken_two verdicts_two (λ w. refl) (λ w e es. refl) AllKeptTwo (λ w e es h k. (kept_unbroken (two_values w) e h k.0, k.1))

-- What was held since a grant

-- the oldest of a list that is not empty does not depend on what stands before it
pub oldest-any : (u v : Value) (l : List Value) → 1 ≤ length l → oldest u l ≡ oldest v l
oldest-any u v [] h = absurd (omega arith)
oldest-any u v (x ∷ l) h = refl

-- all values are r
abbrev pub Level : Value → List Value → Type 0
Level r l = (u : Value) → Memᴰ u l → u ≡ r

level_oldest : (r v : Value) (l : List Value) → v ≡ r → Level r l → oldest v l ≡ r
level_oldest r v [] e f = e
level_oldest r v (x ∷ l) e f = level_oldest r x l (f x (Memᴰ.head refl)) (λ u m. f u (Memᴰ.tail m))

level_any : (v r : Value) (l : List Value) → 1 ≤ length l → Level r l → any (same v) l ≡ same v r
level_any v r [] h f = absurd (omega arith)
level_any v r (x ∷ []) h f = rw (f x (Memᴰ.head refl)) (or-false (same v r))
level_any v r (x ∷ (y ∷ l)) h f = rw (f x (Memᴰ.head refl), level_any v r (y ∷ l) (omega arith) (λ u m. f u (Memᴰ.tail m))) (or_self (same v r))

-- FILL answered STORED: the key has the token's lease

Stores : State → ℕ → ℕ → Outcome → Type 0
Stores s t k r = eqb (word_of r.answer) STORED ≡ true → (l : Lease) × (lease_on s k ≡ some l) × (l.token ≡ t)

stores_settled : (s : State) (now t k : ℕ) (v : Value) (o : Option Refusal) → Stores (expire now s) t k (settled s now o (effect (expire now s) now (Fill t k) v))
unfolding Stores settled effect fills
stores_settled s now t k v (some e) = λ p. clash false p refl
stores_settled s now t k v none = if_ind (Stores (expire now s) t k) (matches t (lease_on (expire now s) k))
    (λ m p. matched t (lease_on (expire now s) k) m) (λ m p. clash false p refl)

pub stored_lease : (s : State) (now t k : ℕ) (v : Value) → eqb (word_of (step s now (Fill t k) v).answer) STORED ≡ true → (l : Lease) × (lease_on s k ≡ some l) × (l.token ≡ t)
unfolding Stores step
stored_lease s now t k v p = let r = stores_settled s now t k v (refusal (expire now s) now (Fill t k) v) p in (r.0, expire_lease now s k r.0 r.1, r.2)

-- a test under the word that it depends on
pub under : (b x y : Bool) (n : ℕ) → (b ≡ true → x ≡ y) → (if b && x then n else 0) ≡ (if b && y then n else 0)
under true x y n f = rw (f refl)
under false x y n f = refl

-- The invariant: what the register has held since a live lease's grant is what it holds now

pub record Steady (w : World) : Type 0 where
  pub orderly : Orderly w.state
  pub since : (k : ℕ) (l : Lease) → lease_on w.state k ≡ some l → (1 ≤ length (w.since l.token k)) × Level (w.register k) (w.since l.token k)

begun_steady : (read_life write_life : ℕ) → Steady (fresh_world read_life write_life)
begun_steady read_life write_life = record { orderly = orderly_fresh read_life write_life; since = λ k l e. Views.fresh_lease read_life write_life k l e }

-- what is remembered of a token after an answer
pub since_quiet : (register : ℕ → Value) (since : ℕ → ℕ → List Value) (a : Answer) (t k : ℕ) → eqb (word_of a) LEASE ≡ false → since_grant register since a t k ≡ since t k
since_quiet register since a t k q = rw q

pub since_grant_lem : (register : ℕ → Value) (since : ℕ → ℕ → List Value) (a : Answer) (u t k : ℕ) → a ≡ Answer.Lease u → t ≡ u → since_grant register since a t k ≡ (register k ∷ [])
since_grant_lem register since a u t k p q = rw (p, q, eq-eqb u u refl)

pub since_other : (register : ℕ → Value) (since : ℕ → ℕ → List Value) (a : Answer) (u t k : ℕ) → a ≡ Answer.Lease u → (u ≡ t → ⊥) → since_grant register since a t k ≡ since t k
since_other register since a u t k p q = rw (p, ne_eqb u t q)

-- what a command leaves of a lease that it finds or grants
pub data Remembered (w : World) (a : Answer) (k : ℕ) (l : Lease) : Type 0 where
  kept_lease : lease_on w.state k ≡ some l → since_grant w.register w.since a l.token k ≡ w.since l.token k → Remembered w a k l
  new_lease : since_grant w.register w.since a l.token k ≡ (w.register k ∷ []) → Remembered w a k l

remembered : (w : World) (c : Command) (r : Outcome) → Orderly w.state → Moves w.state c r → (k : ℕ) (l : Lease) → lease_on r.after k ≡ some l → Remembered w r.answer k l
remembered w c r h m k l e = go m.leases
  where
    go : Leases w.state c r.answer r.after → Remembered w r.answer k l
    go (quiet q f) = kept_lease (f k l e) (since_quiet w.register w.since r.answer l.token k q)
    go (grant n j p q f) = elim (f k l e) [
      | inl y ↦ kept_lease y.1 (since_other w.register w.since r.answer w.state.head.next_token l.token k q (λ z. let given = (h.leases k l y.1).0 in omega arith))
      | inr y ↦ new_lease (since_grant_lem w.register w.since r.answer w.state.head.next_token l.token k q y.1)
    ]

commanded_steady : (w : World) → Steady w → (c : Command) (r : Outcome) → Orderly r.after → Moves w.state c r → Steady (commanded w r)
unfolding commanded
commanded_steady w g c r h m = record { orderly = h; since = λ k l e. since k l (remembered w c r g.orderly m k l e) }
  where
    since : (k : ℕ) (l : Lease) → Remembered w r.answer k l → let x = since_grant w.register w.since r.answer l.token k in (1 ≤ length x) × Level (w.register k) x
    since k l (kept_lease p q) = rw q (g.since k l p)
    since k l (new_lease q) = rw q (omega arith, λ u x. Memᴰ.eq_of_singleton x)

-- rule 2: a key that is written has a row, and so no lease
written_steady : (w : World) → Steady w → (n k : ℕ) (v : Value) → HasRow w.state.rows n k → Steady (written w n k v)
unfolding written
written_steady w g n k v held = record { orderly = g.orderly; since = λ j l e. rw (other j l e) (g.since j l e) }
  where
    other : (j : ℕ) (l : Lease) → lease_on w.state j ≡ some l → eqb j k ≡ false
    other j l e = ne_eqb j k (λ q. (g.orderly.leases j l e).1 held.place n held.kind held.what (rw q held.is))

next_steady : (w : World) (e : Event) → Steady w → WriteKept w e → Steady (next w e)
next_steady w (command now c v) g rule = commanded_steady w g c (step w.state now c v) (orderly_step w.state now c v g.orderly) (moves_step w.state now c v)
next_steady w (write n k v) g rule = written_steady w g n k v rule.1

-- Then both forms say the same

steady_two : (w : World) → Steady w → (e : Event) → broken_two w e ≡ broken w e
steady_two w g (command now Begin v) = refl
steady_two w g (command now (Get n k) v) = refl
steady_two w g (command now (Fill t k) v) = under (eqb (word_of (step w.state now (Fill t k) v).answer) STORED) _ (not (any (same v) (w.since t k))) 1 one
  where
    one : eqb (word_of (step w.state now (Fill t k) v).answer) STORED ≡ true → not (any (same v) (w.register k ∷ oldest (w.register k) (w.since t k) ∷ [])) ≡ not (any (same v) (w.since t k))
    one p =
        let x = stored_lease w.state now t k v p in
        let h : (1 ≤ length (w.since t k)) × Level (w.register k) (w.since t k) = rw x.2 at (g.since k x.0 x.1) in
        ap not (level_any v (w.register k) (w.register k ∷ oldest (w.register k) (w.since t k) ∷ []) (omega arith) (two h.1) ∙ sym (level_any v (w.register k) (w.since t k) h.0 h.1))
      where
        two : Level (w.register k) (w.since t k) → Level (w.register k) (w.register k ∷ oldest (w.register k) (w.since t k) ∷ [])
        two h u (Memᴰ.head q) = q
        two h u (Memᴰ.tail m) = Memᴰ.eq_of_singleton m ∙ level_oldest (w.register k) (w.register k) (w.since t k) refl h
steady_two w g (command now (Quar n k d) v) = refl
steady_two w g (command now (Stage n i k) v) = refl
steady_two w g (command now (Delta n i k o) v) = refl
steady_two w g (command now (Validate n m) v) = refl
steady_two w g (command now (Done n) v) = refl
steady_two w g (command now (Undo n) v) = refl
steady_two w g (command now (Evict k) v) = refl
steady_two w g (command now Tick v) = refl
steady_two w g (write n k v) = refl

module _ (w : World) (g : Steady w) (e : Event) where
  steady_kept : KeptTwo w e → Kept w e
  steady_kept h = kept_of w e (sym (steady_two w g e) ∙ kept_unbroken (two_values w) e g.orderly h)

  steady_kept_two : Kept w e → KeptTwo w e
  steady_kept_two h = kept_of (two_values w) e (steady_two w g e ∙ kept_unbroken w e g.orderly h)

-- after a run from START in which rule 2 was kept
module _ (read_life write_life : ℕ) (es : List Event) (rules : WritesKept (fresh_world read_life write_life) es) where
  abbrev reached : World
  reached = run (fresh_world read_life write_life) es

  steady_run : Steady reached
  steady_run = run_keeps next run (λ w. refl) (λ w e es. refl) WritesKept Steady (λ w e es h g. (next_steady w e g h.0, h.1)) (fresh_world read_life write_life) es rules (begun_steady read_life write_life)

  -- the theorem: the two-value form is rule 1
  pub two_values_rule_1 : (e : Event) → broken_two reached e ≡ broken reached e
  two_values_rule_1 = steady_two reached steady_run

  pub two_kept : (e : Event) → KeptTwo reached e → Kept reached e
  two_kept = steady_kept reached steady_run

  pub kept_two : (e : Event) → Kept reached e → KeptTwo reached e
  kept_two = steady_kept_two reached steady_run

-- So a whole run that keeps the two-value form keeps the rules, and the other way round

write_kept : (w : World) (e : Event) → KeptTwo w e → WriteKept w e
write_kept w (command now c v) h = tt
write_kept w (write n k v) h = h

all_kept : (w : World) (es : List Event) → Steady w → AllKeptTwo w es → AllKept w es
all_kept w es g h = run_gives next (λ w es. Steady w × AllKeptTwo w es) AllKept (λ w a. tt) (λ w e es a. ((next_steady w e a.0 (write_kept w e a.1.0), a.1.1), λ k. (steady_kept w a.0 e a.1.0, k))) w es (g, h)

all_two : (w : World) (es : List Event) → Steady w → AllKept w es → AllKeptTwo w es
all_two w es g h = run_gives next (λ w es. Steady w × AllKept w es) AllKeptTwo (λ w a. tt)
    (λ w e es a. let two = steady_kept_two w a.0 e a.1.0 in ((next_steady w e a.0 (write_kept w e two), a.1.1), λ k. (two, k))) w es (g, h)

pub two_all_kept : (read_life write_life : ℕ) (es : List Event) → AllKeptTwo (fresh_world read_life write_life) es → AllKept (fresh_world read_life write_life) es
two_all_kept read_life write_life es = all_kept (fresh_world read_life write_life) es (begun_steady read_life write_life)

pub all_kept_two : (read_life write_life : ℕ) (es : List Event) → AllKept (fresh_world read_life write_life) es → AllKeptTwo (fresh_world read_life write_life) es
all_kept_two read_life write_life es = all_two (fresh_world read_life write_life) es (begun_steady read_life write_life)
