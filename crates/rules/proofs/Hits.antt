-- What a HIT hands out stands within the cache's bytes and has at most 64: it is the value of a key or one staged in a row of a sound state, and no
-- other command is answered HIT. START never is.
use Rattle.machine.specs.declared.Refusal.{Refusal}
use Prim.Native.Nat.{ℕ, ◌+◌, ◌≤◌, ◌<◌}
use mathlib.Core.Path.{◌≡◌, refl}
use mathlib.Core.Bool.{Bool, true, false}
use mathlib.Core.List.{List}
use mathlib.Core.Option.{Option, none, some}
use native.Mathlib.Omega.{arith}
use lib.ListN.{length}
use borrow.Author.Tests.{leb-false}
use Rattle.lent.proofs.Choices.{clash, if_ind}
use Rattle.machine.specs.Sizes.{state_size, key_count, value_max}
use Rattle.machine.specs.Tables.{first, mem}
use Rattle.machine.specs.Words.{word_of, detail_of, HIT, words_of}
use Rattle.machine.specs.State.{Value, State, free_row, row_of}
use Rattle.machine.specs.Sound.{sound}
use Rattle.machine.specs.Expiry.{expire}
use Rattle.machine.specs.Refusals.{Sight, sight, blocked, refusals, refusal, start_refusals}
use Rattle.machine.specs.Effects.{Outcome, leased, missed, looked, effect}
use Rattle.machine.specs.Step.{settled, step, started, start}
use Rattle.machine.specs.declared.Answer.{Answer}
use Rattle.machine.specs.declared.Command.{Command}
use Rattle.machine.specs.declared.Command.TheVariants.{Begin, Get, Fill, Quar, Stage, Delta, Validate, Done, Undo, Evict, Tick}
use Rattle.machine.proofs.Accepted.{passed}
use Rattle.machine.proofs.KeepsSound.{expire-sound}
use Rattle.machine.proofs.Refused.{accepted_word}
use Rattle.machine.proofs.Sights.{sight_ind}
use Rattle.machine.proofs.SoundFacts as facts
use Rattle.layout.specs.Layout.{decode}
use Rattle.layout.specs.WellFormed.{well_formed}
use Rattle.layout.proofs.Formed.{formed}
use Rattle.startup.specs.Start.{replied, start_refusal, start_of}
use Rattle.words.specs.Numbers.{place_of}
use Rattle.cache.specs.Run.{ran}

-- n bytes at a place, within the state and no more than a value has
pub record ValueInside (at n : ℕ) : Type 0 where
  pub inside : at + n ≤ state_size
  pub short : n ≤ value_max

-- ---- what is in sight

sight_inside : (s : State) → sound s ≡ true → (k : ℕ) → k < key_count → (n : ℕ) (x : Sight) → sight s n k ≡ some x → ValueInside x.at (length x.value)
sight_inside s ok k l = sight_ind (λ (x : Sight). ValueInside x.at (length x.value)) s k
    (λ v q. record { inside = omega (arith, (facts.value_fine s ok k q).short); short = (facts.value_fine s ok k q).short })
    (λ i n j d v q. record { inside = omega (arith, facts.row_place_lem s ok i q, (facts.row_staged s ok i q).1.short); short = (facts.row_staged s ok i q).1.short })

-- ---- a HIT

abbrev pub HitInside : Answer → Type 0
HitInside a = word_of a ≡ HIT → ValueInside (place_of a) (detail_of a)

looked_inside : (s : State) (now n k : ℕ) → sound s ≡ true → k < key_count → (o : Option Sight) → sight s n k ≡ o → HitInside (looked s now n k o).answer
unfolding looked missed leased
looked_inside s now n k ok l (some x) q = λ w. sight_inside s ok k l n x q
looked_inside s now n k ok l none q = if_ind (λ (r : Outcome). HitInside r.answer) (free_row (row_of s n k))
    (λ p. if_ind (λ (r : Outcome). HitInside r.answer) (blocked s k) (λ b w. absurd (omega arith)) (λ b w. absurd (omega arith)))
    (λ p w. absurd (omega arith))

get_inside : (s : State) (now n k : ℕ) (v : Value) → sound s ≡ true → refusal s now (Get n k) v ≡ none → HitInside (effect s now (Get n k) v).answer
unfolding effect refusals
get_inside s now n k v ok e = looked_inside s now n k ok (leb-false key_count k (passed s now (Get n k) v e 1)) (sight s n k) refl

-- the word of no other command
no_hit : (s : State) (now : ℕ) (c : Command) (v : Value) → refusal (expire now s) now c v ≡ none → mem HIT (words_of c) ≡ false → HitInside (step s now c v).answer
unfolding refusal
no_hit s now c v e f w = clash (mem HIT (words_of c)) (rw w at (accepted_word s now c v e)) f

refused_inside : (s : State) (now : ℕ) (c : Command) (v : Value) (m : Refusal) → refusal (expire now s) now c v ≡ some m → HitInside (step s now c v).answer
unfolding step settled
refused_inside s now c v m e = rw e (λ w. absurd (omega arith))

module _ (s : State) (now : ℕ) (v : Value) (ok : sound s ≡ true) where
  accepted_inside : (c : Command) → refusal (expire now s) now c v ≡ none → HitInside (step s now c v).answer
  unfolding step settled
  accepted_inside Begin e = no_hit s now Begin v e refl
  accepted_inside (Get n k) e = rw e (get_inside (expire now s) now n k v (expire-sound s now ok) e)
  accepted_inside (Fill t k) e = no_hit s now (Fill t k) v e refl
  accepted_inside (Quar n k d) e = no_hit s now (Quar n k d) v e refl
  accepted_inside (Stage n i k) e = no_hit s now (Stage n i k) v e refl
  accepted_inside (Delta n i k o) e = no_hit s now (Delta n i k o) v e refl
  accepted_inside (Validate n m) e = no_hit s now (Validate n m) v e refl
  accepted_inside (Done n) e = no_hit s now (Done n) v e refl
  accepted_inside (Undo n) e = no_hit s now (Undo n) v e refl
  accepted_inside (Evict k) e = no_hit s now (Evict k) v e refl
  accepted_inside Tick e = no_hit s now Tick v e refl

  step_inside : (c : Command) → HitInside (step s now c v).answer
  step_inside c = go (refusal (expire now s) now c v) refl
    where
      go : (o : Option Refusal) → refusal (expire now s) now c v ≡ o → HitInside (step s now c v).answer
      go none e = accepted_inside c e
      go (some m) e = refused_inside s now c v m e

pub ran_inside : (x : List ℕ) (now : ℕ) (c : Command) (v : Value) → HitInside (ran x now c v).answer
unfolding ran
ran_inside x now c v = go (well_formed x) refl
  where
    go : (t : Bool) → well_formed x ≡ t → HitInside (ran x now c v).answer
    go true e = rw e (step_inside (decode x) now v (formed x e).sound c)
    go false e = rw e (λ w. absurd (omega arith))

-- START is answered READY or refused
pub start_no_hit : (x : List ℕ) (read_life write_life : ℕ) → word_of (start_of x read_life write_life).answer ≡ HIT → ⊥
unfolding start_of start
start_no_hit x read_life write_life = go (start_refusal x read_life write_life) (first (start_refusals read_life write_life))
  where
    go : (o p : Option Refusal) → word_of (replied x o (started read_life write_life p (decode x))).answer ≡ HIT → ⊥
    go none none w = omega arith
    go none (some e) w = omega arith
    go (some e) p w = omega arith
