-- After a HIT, SHOW gives the value that it handed out, at the same place: a GET that hits leaves the state after expiry with its clock moved, the tests
-- that it passed are those of SHOW, and what is in sight does not depend on the clock. Over bytes this is what the next SHOW on the buffer answers.
use Rattle.machine.specs.declared.Refusal.{Refusal}
use mathlib.Core.Path.{◌≡◌, refl, sym, ap, ◌∙◌}
use mathlib.Core.Bool.{true, false}
use mathlib.Core.Logic.{◌⊎◌, inl, inr}
use mathlib.Core.List.{List}
use mathlib.Core.Option.{Option, none, some}
use Prim.Native.Nat.{ℕ}
use lib.ListN.{length}
use Rattle.lent.specs.Bytes.{Bytes}
use Rattle.lent.proofs.Choices.{case_of, zero_one, if_ind}
use Rattle.machine.specs.Words.{STATE}
use Rattle.machine.specs.State.{Value, State, free_row, row_of}
use Rattle.machine.specs.Expiry.{with_clock, expire}
use Rattle.machine.specs.Refusals.{blocked, Sight, sight, refusals, refusal}
use Rattle.machine.specs.Effects.{Outcome, leased, missed, looked, effect}
use Rattle.machine.specs.Step.{settled, step, seen, show}
use Rattle.machine.specs.declared.Answer.{Answer}
use Rattle.machine.specs.declared.Command.TheVariants.{Get}
use Rattle.machine.proofs.Accepted.{passed}
use Rattle.layout.specs.Layout.{decode}
use Rattle.layout.specs.WellFormed.{well_formed}
use Rattle.startup.specs.Start.{Reply}
use Rattle.show.specs.Show.{show_of}
use Rattle.cache.specs.Run.{ran}
use Rattle.cache.proofs.Taken.{ran_formed, ran_unformed}
use Rattle.promises.specs.Shown.{ShowsHit}
use Rattle.promises.proofs.Ran.{formed_kept, decode-ran}

-- who sees no value is told another word than HIT
looked-none : (s : State) (now n k at size : ℕ) → (looked s now n k none).answer ≡ Answer.Hit at size → ⊥
unfolding looked missed leased
looked-none s now n k at size = if_ind (λ (r : Outcome). r.answer ≡ Answer.Hit at size → ⊥) (free_row (row_of s n k))
    (λ q. if_ind (λ (r : Outcome). r.answer ≡ Answer.Hit at size → ⊥) (blocked s k) (λ b e. zero_one cc) (λ b e. zero_one cc))
    (λ q e. zero_one cc)

looked-some : (s : State) (now n k at size : ℕ) (x : Sight) → (looked s now n k (some x)).answer ≡ Answer.Hit at size → ShowsHit at size (looked s now n k (some x)).handed (seen (some x))
unfolding looked
looked-some s now n k at size x e = let a : x.at ≡ at = cc in let b : length x.value ≡ size = cc in record { answer = ap Answer.Value b; place = a; value = refl }

-- where GET is accepted, so is SHOW at its time
show_accepted : (s : State) (now n k : ℕ) (v : Value) → refusal s now (Get n k) v ≡ none → show (with_clock s now) n k ≡ seen (sight s n k)
unfolding show sight refusals
show_accepted s now n k v e = rw (passed s now (Get n k) v e 1, passed s now (Get n k) v e 2)

module _ (s : State) (now n k at size : ℕ) (v : Value) where
  settled_shown : (o : Option Refusal) → refusal (expire now s) now (Get n k) v ≡ o → (settled s now o (effect (expire now s) now (Get n k) v)).answer ≡ Answer.Hit at size
      → ShowsHit at size (settled s now o (effect (expire now s) now (Get n k) v)).handed (show (settled s now o (effect (expire now s) now (Get n k) v)).after n k)
  unfolding settled effect looked
  settled_shown (some e) p q = zero_one cc
  settled_shown none p q = hit (sight (expire now s) n k) refl q
    where
      hit : (o : Option Sight) → sight (expire now s) n k ≡ o → (looked (expire now s) now n k o).answer ≡ Answer.Hit at size
          → ShowsHit at size (looked (expire now s) now n k o).handed (show (with_clock (looked (expire now s) now n k o).after now) n k)
      hit (some x) e a = rw (show_accepted (expire now s) now n k v p, e) (looked-some (expire now s) now n k at size x a)
      hit none e a = absurd (looked-none (expire now s) now n k at size a)

  hit_shown : (step s now (Get n k) v).answer ≡ Answer.Hit at size → ShowsHit at size (step s now (Get n k) v).handed (show (step s now (Get n k) v).after n k)
  unfolding step
  hit_shown = settled_shown (refusal (expire now s) now (Get n k) v) refl

-- the same on the lent bytes
pub hit_shown_bytes : (b : List ℕ) (now n k at size : ℕ) (v : Value) → Bytes v → (ran b now (Get n k) v).answer ≡ Answer.Hit at size
    → ShowsHit at size (step (decode b) now (Get n k) v).handed (show_of (ran b now (Get n k) v).bytes n k)
unfolding show_of
hit_shown_bytes b now n k at size v x p = go (case_of (well_formed b))
  where
    go : (well_formed b ≡ true) ⊎ (well_formed b ≡ false) → ShowsHit at size (step (decode b) now (Get n k) v).handed (show_of (ran b now (Get n k) v).bytes n k)
    go (inl f) = rw (formed_kept b now (Get n k) v x f, decode-ran b now (Get n k) v x f) (hit_shown (decode b) now n k at size v (sym (ap (λ (r : Reply). r.answer) (ran_formed b now (Get n k) v f)) ∙ p))
    go (inr f) = let z : Answer.Refused STATE ≡ Answer.Hit at size = sym (ap (λ (r : Reply). r.answer) (ran_unformed b now (Get n k) v f)) ∙ p in zero_one cc
