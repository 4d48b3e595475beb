-- The parts of a step as the code takes them, said of the bytes: what is held after the clock's test, after the command, after expiry,
-- and after the check of the whole buffer.
use Rattle.std.specs.Prelude.{Ok, Err}
use mathlib.Core.Path.{◌≡◌, refl, sym, ap, ◌∙◌}
use mathlib.Core.Bool.{true, false, or-true}
use mathlib.Core.List.{List}
use mathlib.Core.Option.{Option, none, some}
use Prim.Native.Nat.{ℕ, ◌≤◌, ◌<◌}
use lib.Dec.{ltb}
use borrow.Author.Tests.{lt-ltb, le-ltb}
use Rattle.lent.proofs.Choices.{zero_one}
use Rattle.machine.specs.Sizes.{time_max}
use Rattle.machine.specs.Words.{STATE, CLOCK}
use Rattle.machine.specs.State.{Value, State}
use Rattle.machine.specs.Sound.{sound}
use Rattle.machine.specs.Expiry.{with_clock, expire}
use Rattle.machine.specs.Refusals.{clock_refusal, refusal}
use Rattle.machine.specs.Step.{settled, step}
use Rattle.machine.specs.declared.Answer.{Answer}
use Rattle.machine.specs.declared.Command.{Command}
use Rattle.layout.specs.Layout.{decode}
use Rattle.layout.specs.WellFormed.{well_formed}
use Rattle.layout.specs.Holds.{Holds}
use Rattle.layout.proofs.Formed.{formed, holds_decoded}
use Rattle.outcome.specs.Outcome.{tried, acted, is_refused, Gives, Does}
use Rattle.outcome.proofs.Told.{gives}
use Rattle.outcome.proofs.Steps.{acted_clock, acted_in_time, step_still}
use Rattle.refusals.specs.Met.{refusal_of}
use Rattle.machine.specs.declared.Refusal.{Refusal}
use Rattle.cache.specs.Run.{encoded, ran}

refusal-some : {e : Refusal} (o : Option Refusal) → refusal_of o ≡ Err e → o ≡ some e
refusal-some none q = zero_one cc
refusal-some (some d) q = cc

refusal-none : (o : Option Refusal) → refusal_of o ≡ Ok tt → o ≡ none
refusal-none none q = refl
refusal-none (some d) q = zero_one cc

module _ (s : State) (now : ℕ) (c : Command) (v : Value) where
  -- CLOCK
  pub acted-before_clock : {b : List ℕ} → now < s.head.clock → Holds b s → Gives (acted s now c v) (Answer.Refused CLOCK) b
  acted-before_clock e h = gives (acted_clock s now c v (rw (lt-ltb now s.head.clock e))) h

  pub acted_past_time : {b : List ℕ} → time_max < now → Holds b s → Gives (acted s now c v) (Answer.Refused CLOCK) b
  acted_past_time e h = gives (acted_clock s now c v (rw (lt-ltb time_max now e) (or-true (ltb now s.head.clock)))) h

  in_time : s.head.clock ≤ now → now ≤ time_max → (clock_refusal s now).0 ≡ false
  in_time p q = rw (le-ltb now s.head.clock p, le-ltb time_max now q)

  -- the command itself
  pub refused_still : {a : Answer} {b : List ℕ} → s.head.clock ≤ now → now ≤ time_max → is_refused a ≡ true → Gives (tried s now c v) a b → Gives (acted s now c v) a b
  refused_still p q r g = rw (acted_in_time s now c v (in_time p q) (sym (ap is_refused g.answer) ∙ r)) g

  pub accepted_still : {a : Answer} {b d : List ℕ} → s.head.clock ≤ now → now ≤ time_max → is_refused a ≡ false → Gives (tried s now c v) a b
      → Holds d (with_clock (tried s now c v).after now) → Gives (acted s now c v) a d
  accepted_still p q r g h = rw (acted_in_time s now c v (in_time p q) (sym (ap is_refused g.answer) ∙ r)) (record { answer = g.answer; holds = h })

  -- after expiry
  pub refused-expired : {e : Refusal} {b : List ℕ} → refusal_of (refusal (expire now s) now c v) ≡ Err e → Holds b s → Gives (step s now c v) (Answer.Refused e) b
  unfolding step settled
  refused-expired q h = rw (refusal-some (refusal (expire now s) now c v) q) (record { answer = refl; holds = h })

  pub accepted_expired : {a : Answer} {b : List ℕ} → refusal_of (refusal (expire now s) now c v) ≡ Ok tt → Gives (acted (expire now s) now c v) a b → Gives (step s now c v) a b
  unfolding step acted settled
  accepted_expired q g = let e = refusal-none (refusal (expire now s) now c v) q in rw e (rw e at g)

  pub step-by-acted : {a : Answer} {b : List ℕ} → expire now s ≡ s → Gives (acted s now c v) a b → Gives (step s now c v) a b
  step-by-acted e g = rw (step_still s now c v e) g

-- the whole buffer
module _ (b : List ℕ) (now : ℕ) (c : Command) (v : Value) where
  pub ran_unformed : well_formed b ≡ false → ran b now c v ≡ record { answer = Answer.Refused STATE; bytes = b }
  unfolding ran
  ran_unformed e = rw e

  pub ran_formed : well_formed b ≡ true → ran b now c v ≡ encoded (step (decode b) now c v)
  unfolding ran
  ran_formed e = rw e

  pub ran_refuses : well_formed b ≡ false → (Answer.Refused STATE ≡ (ran b now c v).answer) × (b ≡ (ran b now c v).bytes)
  ran_refuses e = rw (ran_unformed e) (refl, refl)

  pub ran_does : (a : Answer) (d : List ℕ) → well_formed b ≡ true → Does b (λ s. step s now c v) a d → (a ≡ (ran b now c v).answer) × (d ≡ (ran b now c v).bytes)
  ran_does a d e f = let g = f (decode b) (holds_decoded b e) (formed b e).sound in rw (ran_formed e) (g.answer, g.holds.bytes)
