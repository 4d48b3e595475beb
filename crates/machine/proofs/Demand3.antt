-- Demand 3: in a run from START in which the clients keep the four rules, at each moment a key with no quarantine is absent
-- or holds what the register holds, and what GET or SHOW hands to anyone without a row on a quarantined key is what the
-- register held when that unbroken quarantine began. Such a hit hands out the cached value, of which the invariant says it.
use mathlib.Core.Path.{◌≡◌, refl, sym, ap, ◌∙◌}
use mathlib.Core.Bool.{false}
use mathlib.Core.Logic.{◌⊎◌, inl, inr}
use mathlib.Core.List.{List, ◌++◌}
use mathlib.Core.Option.{Option, none, some}
use Prim.Native.Nat.{ℕ}
use lib.Dec.{eqb}
use Rattle.lent.proofs.Choices.{clash, if_ind}
use Rattle.lent.proofs.Runs.{run_gives}
use Rattle.machine.specs.Tables.{first}
use Rattle.machine.specs.Words.{word_of, HIT}
use Rattle.machine.specs.State.{Value, Row, no_row, State, free_row, row_of, row_place, cached}
use Rattle.machine.specs.Expiry.{expire}
use Rattle.machine.specs.Refusals.{blocked, Sight, cached_sight, row_sight, sight, refusal, show_refusals}
use Rattle.machine.specs.Effects.{Outcome, told, wait, leased, missed, looked, effect}
use Rattle.machine.specs.Step.{settled, step, showing, show}
use Rattle.machine.specs.World.{Event, command, World, quarantined, fresh_world, commanded, next, run, AllKept, Consistent}
use Rattle.machine.specs.declared.Refusal.{Refusal}
use Rattle.machine.specs.declared.Answer.{Answer}
use Rattle.machine.specs.declared.Command.TheVariants.{Get}
use Rattle.machine.proofs.Views
use Rattle.machine.proofs.Invariant.{Good, fresh_good, row_on-quarantined, quarantined_row_on}
use Rattle.machine.proofs.Promise.{next_good, run_good}

-- without a row, what is in sight is the cached value

cached-sight : (k : ℕ) (c : Option Value) (x : Sight) → cached_sight k c ≡ some x → c ≡ some x.value
cached-sight k none x e = Views.no_some x e
cached-sight k (some v) x e = ap (λ (y : Sight). some y.value) (Views.some_eq (record { at = _; value = v }) x e)

sight-cached : (s : State) (n k : ℕ) (x : Sight) → row_of s n k ≡ no_row → sight s n k ≡ some x → cached s k ≡ some x.value
unfolding sight
sight-cached s n k x p e = cached-sight k (cached s k) x (sym (ap (λ (r : Row). row_sight (row_place s n k) k r (cached s k)) p) ∙ e)

-- GET: a hit hands out what is in sight

Handed : (n k at size : ℕ) → Outcome → Type 0
Handed n k at size r = r.answer ≡ Answer.Hit at size → row_of r.after n k ≡ no_row → cached r.after k ≡ some r.handed

-- another word is no hit
another : (n k at size : ℕ) (r : Outcome) → eqb (word_of r.answer) HIT ≡ false → Handed n k at size r
unfolding Handed
another n k at size r q e f = Views.answers_differ r.answer (Answer.Hit at size) q e

looked-hit : (s : State) (now n k at size : ℕ) (o : Option Sight) → sight s n k ≡ o → Handed n k at size (looked s now n k o)
unfolding Handed looked missed leased
looked-hit s now n k at size (some x) p = λ e f. sight-cached s n k x f p
looked-hit s now n k at size none p = if_ind (Handed n k at size) (free_row (row_of s n k))
    (λ q. if_ind (Handed n k at size) (blocked s k) (λ b. another n k at size (told (Answer.Backoff (wait s k now)) s) refl) (λ b. another n k at size (leased s now k) refl))
    (λ q. another n k at size (told Answer.Ask s) refl)

settled-hit : (s t : State) (now n k at size : ℕ) (v : Value) (o : Option Refusal) → Handed n k at size (settled s now o (effect t now (Get n k) v))
unfolding Handed settled effect
settled-hit s t now n k at size v (some c) = another n k at size (told (Answer.Refused c) s) refl
settled-hit s t now n k at size v none = looked-hit t now n k at size (sight t n k) refl

get_hit : (s : State) (now n k at size : ℕ) (v : Value) → (step s now (Get n k) v).answer ≡ Answer.Hit at size → row_of (step s now (Get n k) v).after n k ≡ no_row → cached (step s now (Get n k) v).after k ≡ some (step s now (Get n k) v).handed
unfolding Handed step
get_hit s now n k at size v = settled-hit s (expire now s) now n k at size v (refusal (expire now s) now (Get n k) v)

-- SHOW: so does its stretch

showing_value : (s : State) (n k size : ℕ) (r : Option Refusal) (o : Option Sight) → sight s n k ≡ o → (showing r o).answer ≡ Answer.Value size → row_of s n k ≡ no_row → cached s k ≡ some (showing r o).value
showing_value s n k size none (some x) p e f = sight-cached s n k x f p
showing_value s n k size none none p e f = Views.answers_differ Answer.None (Answer.Value size) refl e
showing_value s n k size (some c) o p e f = Views.answers_differ (Answer.Refused c) (Answer.Value size) refl e

show_value : (s : State) (n k size : ℕ) → (show s n k).answer ≡ Answer.Value size → row_of s n k ≡ no_row → cached s k ≡ some (show s n k).value
unfolding show
show_value s n k size = showing_value s n k size (first (show_refusals s n k)) (sight s n k) refl

-- The promise at one moment

unquarantined_key : (w : World) → Good w → (k : ℕ) → quarantined w.state k ≡ false → (o : Option Value) → cached w.state k ≡ o → (o ≡ none) ⊎ (o ≡ some (w.register k))
unquarantined_key w g k e none p = inl refl
unquarantined_key w g k e (some v) p = elim (g.current k v p) [
  | inl h ↦ inr (ap some h)
  | inr h ↦ clash (quarantined w.state k) (row_on-quarantined w.state.rows k (record { number = h.number; holds = h.holds })) e
]

pub consistent : (w : World) → Good w → Consistent w
unfolding commanded
consistent w g = record {
  unquarantined = λ k e. unquarantined_key w g k e (cached w.state k) refl;
  handed = λ now n k at size v e q f. (next_good w g (command now (Get n k) v) tt).older k _ (get_hit w.state now n k at size v e f) (quarantined_row_on _ k q);
  shown = λ n k size e q f. g.older k _ (show_value w.state n k size e f) (quarantined_row_on w.state.rows k q);
}

-- The theorem

-- of a whole run
pub demand_3_whole : (read_life write_life : ℕ) (es : List Event) → AllKept (fresh_world read_life write_life) es → Consistent (run (fresh_world read_life write_life) es)
demand_3_whole read_life write_life es h = consistent (run (fresh_world read_life write_life) es) (run_good (fresh_world read_life write_life) es (fresh_good read_life write_life) h)

kept_before : (w : World) (es fs : List Event) → AllKept w (es ++ fs) → AllKept w es
kept_before w es fs = run_gives next (λ w es. AllKept w (es ++ fs)) AllKept (λ w h. tt) (λ w e es h. (h.1, λ k. (h.0, k))) w es

-- at each moment of each run: after each first part of it
pub demand_3 : (read_life write_life : ℕ) (es fs : List Event) → AllKept (fresh_world read_life write_life) (es ++ fs) → Consistent (run (fresh_world read_life write_life) es)
demand_3 read_life write_life es fs h = demand_3_whole read_life write_life es (kept_before (fresh_world read_life write_life) es fs h)
