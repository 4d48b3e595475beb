-- Demands 1 and 2 over the lent bytes: on a buffer that is not well formed nothing happens, and a well-formed one is the encoding of a sound
-- state. A refused command keeps that state, so its encoding is the same bytes; every command leaves a sound state, so its encoding is well formed
-- and says that state. START is READY, or refuses and leaves the bytes.
use Rattle.machine.specs.declared.Refusal.{Refusal}
use mathlib.Core.Path.{◌≡◌, sym, ap, ◌∙◌}
use mathlib.Core.Bool.{true, false}
use mathlib.Core.Logic.{◌⊎◌, inl, inr}
use mathlib.Core.List.{List}
use Prim.Native.Nat.{ℕ}
use lib.Dec.{eqb}
use lib.ListN.{length}
use borrow.Author.Tests.{eqb-true, eqb-false}
use Rattle.lent.specs.Bytes.{Bytes}
use Rattle.lent.proofs.Choices.{case_of, zero_one}
use Rattle.machine.specs.State.{Value}
use Rattle.machine.specs.Sizes.{state_size}
use Rattle.machine.specs.Words.{STATE, ARG}
use Rattle.machine.specs.Sound.{lifetime, sound}
use Rattle.machine.specs.Step.{step}
use Rattle.machine.specs.declared.Answer.{Answer}
use Rattle.machine.specs.declared.Command.{Command}
use Rattle.machine.proofs.Refused.{refused_keeps}
use Rattle.machine.proofs.KeepsSound.{step-sound}
use Rattle.layout.specs.Layout.{encode, decode}
use Rattle.layout.specs.WellFormed.{well_formed}
use Rattle.layout.proofs.Fitting.{sound-fits}
use Rattle.layout.proofs.Formed.{formed, sound_formed, holds-encoded, holds_is}
use Rattle.startup.specs.Start.{Reply, start_of}
use Rattle.startup.proofs.Started.{started_size, started_read, started_write, started-ready}
use Rattle.cache.specs.Run.{ran}
use Rattle.cache.proofs.Taken.{ran_formed, ran_unformed}

module _ (b : List ℕ) (now : ℕ) (c : Command) (v : Value) where
  -- demand 1: a refusal leaves every byte
  pub refused_bytes : (e : Refusal) → (ran b now c v).answer ≡ Answer.Refused e → (ran b now c v).bytes ≡ b
  refused_bytes e p = go (case_of (well_formed b))
    where
      go : (well_formed b ≡ true) ⊎ (well_formed b ≡ false) → (ran b now c v).bytes ≡ b
      go (inl f) =
          let q : (step (decode b) now c v).answer ≡ Answer.Refused e = sym (ap (λ (r : Reply). r.answer) (ran_formed b now c v f)) ∙ p in
          ap (λ (r : Reply). r.bytes) (ran_formed b now c v f) ∙ ap encode (refused_keeps (decode b) now c v e q) ∙ sym (formed b f).bytes
      go (inr f) = ap (λ (r : Reply). r.bytes) (ran_unformed b now c v f)

  -- demand 2: what a command leaves
  module _ (x : Bytes v) (f : well_formed b ≡ true) where
    after-sound : sound (step (decode b) now c v).after ≡ true
    after-sound = step-sound (decode b) now c v x (formed b f).sound

    pub formed_kept : well_formed (ran b now c v).bytes ≡ true
    formed_kept = ap (λ (r : Reply). well_formed r.bytes) (ran_formed b now c v f) ∙ sound_formed (step (decode b) now c v).after after-sound

    pub decode-ran : decode (ran b now c v).bytes ≡ (step (decode b) now c v).after
    decode-ran = ap (λ (r : Reply). decode r.bytes) (ran_formed b now c v f) ∙ holds_is (holds-encoded (step (decode b) now c v).after (sound-fits (step (decode b) now c v).after after-sound))

-- START refuses, and the buffer stands
pub record StartRefused (b : List ℕ) (read_life write_life : ℕ) : Type 0 where
  pub refusal : Refusal
  pub is : start_of b read_life write_life ≡ record { answer = Answer.Refused refusal; bytes = b }

pub ready_or_refused : (b : List ℕ) (read_life write_life : ℕ) → ((start_of b read_life write_life).answer ≡ Answer.Ready) ⊎ StartRefused b read_life write_life
ready_or_refused b read_life write_life = sized (case_of (eqb (length b) state_size))
  where
    lives : length b ≡ state_size → (lifetime read_life ≡ true) ⊎ (lifetime read_life ≡ false) → (lifetime write_life ≡ true) ⊎ (lifetime write_life ≡ false)
        → ((start_of b read_life write_life).answer ≡ Answer.Ready) ⊎ StartRefused b read_life write_life
    lives l (inl r) (inl w) = inl (ap (λ (x : Reply). x.answer) (started-ready b read_life write_life l r w))
    lives l (inl r) (inr w) = inr (record { refusal = ARG; is = started_write b read_life write_life l w })
    lives l (inr r) w = inr (record { refusal = ARG; is = started_read b read_life write_life l r })

    sized : (eqb (length b) state_size ≡ true) ⊎ (eqb (length b) state_size ≡ false) → ((start_of b read_life write_life).answer ≡ Answer.Ready) ⊎ StartRefused b read_life write_life
    sized (inl l) = lives (eqb-true (length b) state_size l) (case_of (lifetime read_life)) (case_of (lifetime write_life))
    sized (inr l) = inr (record { refusal = STATE; is = started_size b read_life write_life (eqb-false (length b) state_size l) })

-- demand 1 of START
pub refused-start : (b : List ℕ) (read_life write_life : ℕ) (e : Refusal) → (start_of b read_life write_life).answer ≡ Answer.Refused e → (start_of b read_life write_life).bytes ≡ b
refused-start b read_life write_life e p = elim (ready_or_refused b read_life write_life) [
  | inl q ↦ (let z : Answer.Ready ≡ Answer.Refused e = sym q ∙ p in zero_one cc)
  | inr q ↦ ap (λ (x : Reply). x.bytes) q.is
]
