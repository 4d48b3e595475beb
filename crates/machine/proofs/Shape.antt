-- Each command keeps the shape of the tables, under no rule of the clients: an accepted one by the law of its change and what
-- its tests say, a refused one since it changes nothing. So does a register write.
use mathlib.Core.Path.{◌≡◌, refl, sym, ◌∙◌}
use mathlib.Core.Bool.{false, not}
use mathlib.Core.List.{[], ◌∷◌}
use mathlib.Core.Option.{Option, none, some}
use Prim.Native.Nat.{ℕ}
use native.Mathlib.Omega.{arith}
use borrow.Author.Tests.{eqb-true, not-false}
use lib.Dec.{eqb, ltb}
use Rattle.lent.proofs.Choices.{if_ind, or_no}
use Rattle.machine.specs.Tables.{is_none}
use Rattle.machine.specs.Words.{is_kind, INVALIDATE, REFRESH, INCREMENTAL}
use Rattle.machine.specs.Decision.{grants}
use Rattle.machine.specs.State.{Value, Staged, staged, State, free_row, kind_of, staged_in, row_of, cached, lease_on}
use Rattle.machine.specs.Expiry.{expire}
use Rattle.machine.specs.Refusals.{decide, blocked, Sight, sight, bad_key, count_of, refusals, refusal}
use Rattle.machine.specs.Effects.{Outcome, missed, looked, matches, asks, changed, stages, to_cache, effect}
use Rattle.machine.specs.Step.{settled, step}
use Rattle.machine.specs.World.{Event, command, write, World, commanded, written, next}
use Rattle.machine.specs.WellFormed.{Orderly, Within}
use Rattle.machine.specs.declared.Refusal.{Refusal}
use Rattle.machine.specs.declared.Command.{Command}
use Rattle.machine.specs.declared.Command.TheVariants.{Begin, Get, Fill, Quar, Stage, Delta, Validate, Done, Undo, Evict, Tick}
use Rattle.machine.proofs.OrderlyKept
use Rattle.machine.proofs.Accepted.{passed, is_kind_lem, sharing, unblocked, row_of_lem}

module _ (s : State) (h : Orderly s) where
  abbrev Keeps : Outcome → Type 0
  Keeps r = Orderly r.after

  keeps_looked : (now n k : ℕ) (o : Option Sight) → Keeps (looked s now n k o)
  unfolding looked missed
  keeps_looked now n k (some x) = h
  keeps_looked now n k none = if_ind Keeps (free_row (row_of s n k)) (λ e. if_ind Keeps (blocked s k) (λ b. h) (λ b. OrderlyKept.orderly_leased s now k (unblocked s h k b) h)) (λ e. h)

  keeps_asks : (n k kind : ℕ) → Within INVALIDATE INCREMENTAL kind → Keeps (asks s n k kind)
  unfolding asks
  keeps_asks n k kind range = if_ind Keeps (grants (decide s k kind)) (λ e. OrderlyKept.orderly_granted s n k kind range (sharing s h k kind range e) h) (λ e. OrderlyKept.orderly_leave s (n ∷ []) h)

  -- where the row on the key is there and of kind d, which is no invalidation
  keeps_stages : (n i k d : ℕ) (u : Staged) → free_row (row_of s n k) ≡ false → not (eqb (kind_of (row_of s n k)) d) ≡ false → (d ≡ INVALIDATE → ⊥) → Keeps (stages s n i k u)
  unfolding stages
  keeps_stages n i k d u e f apart = if_ind Keeps (ltb i (count_of s n)) (λ p. h)
      (λ p. let r = row_of_lem s n k e in
      OrderlyKept.orderly_staged s n k r.0 (kind_of (row_of s n k)) u r.1 r.2 (λ q. apart (sym (eqb-true (kind_of (row_of s n k)) d (not-false _ f)) ∙ q)) h)

  pub orderly_effect : (now : ℕ) (c : Command) (v : Value) → refusal s now c v ≡ none → Orderly (effect s now c v).after
  unfolding effect refusals
  orderly_effect now Begin v e = OrderlyKept.orderly_begin s now h
  orderly_effect now (Get n k) v e = keeps_looked now n k (sight s n k)
  orderly_effect now (Fill t k) v e = if_ind Keeps (matches t (lease_on s k)) (λ m. OrderlyKept.orderly_filled s k v h) (λ m. h)
  orderly_effect now (Quar n k kind) v e = let no = passed s now (Quar n k kind) v e in
      if_ind Keeps (eqb (kind_of (row_of s n k)) kind) (λ m. h) (λ m. keeps_asks n k kind (is_kind_lem kind (not-false _ (or_no (bad_key k) (not (is_kind kind)) (no 1)).1)))
  orderly_effect now (Stage n i k) v e = let no = passed s now (Stage n i k) v e in keeps_stages n i k REFRESH (staged v) (no 5) (no 6) (λ q. omega arith)
  orderly_effect now (Delta n i k o) v e = let no = passed s now (Delta n i k o) v e in keeps_stages n i k INCREMENTAL (changed o v (staged_in (row_of s n k)) (cached s k)) (no 5) (no 6) (λ q. omega arith)
  orderly_effect now (Validate n m) v e = if_ind Keeps (eqb m (count_of s n)) (λ p. OrderlyKept.orderly_seal s n h) (λ p. OrderlyKept.orderly_leave s (n ∷ []) h)
  orderly_effect now (Done n) v e = OrderlyKept.orderly_finish s (n ∷ []) to_cache h
  orderly_effect now (Undo n) v e = OrderlyKept.orderly_leave s (n ∷ []) h
  orderly_effect now (Evict k) v e = if_ind Keeps (is_none (cached s k)) (λ p. h) (λ p. OrderlyKept.orderly_evicted s k h)
  orderly_effect now Tick v e = h

orderly_settled : (s : State) (now : ℕ) (o : Option Refusal) (r : Outcome) → Orderly s → (o ≡ none → Orderly r.after) → Orderly (settled s now o r).after
unfolding settled
orderly_settled s now none r h f = OrderlyKept.orderly_clock r.after now (f refl)
orderly_settled s now (some e) r h f = h

pub orderly_step : (s : State) (now : ℕ) (c : Command) (v : Value) → Orderly s → Orderly (step s now c v).after
unfolding step
orderly_step s now c v h = orderly_settled s now (refusal (expire now s) now c v) (effect (expire now s) now c v) h (orderly_effect (expire now s) (OrderlyKept.orderly_expire s now h) now c v)

pub orderly_next : (w : World) (e : Event) → Orderly w.state → Orderly (next w e).state
unfolding commanded written
orderly_next w (command now c v) h = orderly_step w.state now c v h
orderly_next w (write n k v) h = h
