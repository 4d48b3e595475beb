-- What START writes: where it answers READY, the bytes are those of the fresh state, so they are well formed, they decode to it, and the
-- machine's theorems hold from them: every run stays sound, and demand 3 holds at each moment of each run.
use Rattle.machine.specs.declared.Refusal.{Refusal}
use mathlib.Core.Path.{◌≡◌, refl, sym, ap, ◌∙◌}
use mathlib.Core.Bool.{true, false}
use mathlib.Core.Logic.{◌⊎◌, inl, inr}
use mathlib.Core.List.{List, [], ◌++◌}
use Prim.Native.Nat.{ℕ}
use lib.Dec.{eqb}
use lib.ListN.{length}
use borrow.Author.Tests.{eqb-true, eqb-false}
use Rattle.lent.proofs.Choices.{case_of}
use Rattle.machine.specs.Sizes.{state_size}
use Rattle.machine.specs.Words.{STATE, ARG}
use Rattle.machine.specs.State.{State, fresh}
use Rattle.machine.specs.Sound.{lifetime, sound}
use Rattle.machine.specs.World.{Event, World, fresh_world, run, AllKept, Consistent, AllBytes}
use Rattle.machine.specs.declared.Answer.{Answer}
use Rattle.machine.proofs.Views.{answers_differ}
use Rattle.machine.proofs.KeepsSound.{fresh-sound, reached-sound}
use Rattle.machine.proofs.Demand3.{demand_3}
use Rattle.layout.specs.Layout.{encode, decode}
use Rattle.layout.specs.WellFormed.{well_formed}
use Rattle.layout.proofs.Fitting.{sound-fits}
use Rattle.layout.proofs.Formed.{sound_formed, holds-encoded, holds_is}
use Rattle.startup.specs.Start.{Reply, start_of}
use Rattle.startup.specs.Statements.{world_on}
use Rattle.startup.proofs.Started.{Started, started_size, started_read, started_write, started-ready}

module _ (b : List ℕ) (read_life write_life : ℕ) where
  -- a refusal has another word
  ready_not_refused : (e : Refusal) → start_of b read_life write_life ≡ record { answer = Answer.Refused e; bytes = b } → (start_of b read_life write_life).answer ≡ Answer.Ready → {A : Type 0} → A
  ready_not_refused e p q = answers_differ (Answer.Refused e) Answer.Ready refl (sym (ap (λ (r : Reply). r.answer) p) ∙ q)

  ready-started : (start_of b read_life write_life).answer ≡ Answer.Ready → Started b read_life write_life
  ready-started q = sized (case_of (eqb (length b) state_size))
    where
      told : length b ≡ state_size → (lifetime read_life ≡ true) ⊎ (lifetime read_life ≡ false) → (lifetime write_life ≡ true) ⊎ (lifetime write_life ≡ false) → Started b read_life write_life
      told e (inl r) (inl w) = record { size = e; read = r; write = w }
      told e (inl r) (inr w) = ready_not_refused ARG (started_write b read_life write_life e w) q
      told e (inr r) w = ready_not_refused ARG (started_read b read_life write_life e r) q

      sized : (eqb (length b) state_size ≡ true) ⊎ (eqb (length b) state_size ≡ false) → Started b read_life write_life
      sized (inl e) = told (eqb-true (length b) state_size e) (case_of (lifetime read_life)) (case_of (lifetime write_life))
      sized (inr e) = ready_not_refused STATE (started_size b read_life write_life (eqb-false (length b) state_size e)) q

  module _ (ready : (start_of b read_life write_life).answer ≡ Answer.Ready) where
    ready_bytes : (start_of b read_life write_life).bytes ≡ encode (fresh read_life write_life)
    ready_bytes = let x = ready-started ready in ap (λ (r : Reply). r.bytes) (started-ready b read_life write_life x.size x.read x.write)

    fresh_is_sound : sound (fresh read_life write_life) ≡ true
    fresh_is_sound = let x = ready-started ready in fresh-sound read_life write_life x.read x.write

    pub ready_formed : well_formed (start_of b read_life write_life).bytes ≡ true
    ready_formed = rw ready_bytes (sound_formed (fresh read_life write_life) fresh_is_sound)

    pub ready_decodes : decode (start_of b read_life write_life).bytes ≡ fresh read_life write_life
    ready_decodes = ap decode ready_bytes ∙ holds_is (holds-encoded (fresh read_life write_life) (sound-fits (fresh read_life write_life) fresh_is_sound))

    pub world_fresh : world_on (start_of b read_life write_life).bytes ≡ fresh_world read_life write_life
    world_fresh = ap (λ (s : State). record { state = s; register = λ k. []; began = λ k. []; since = λ t k. []; wrote = λ n. false }) ready_decodes

    -- every run from these bytes stays sound
    pub ready-sound : (es : List Event) → AllBytes es → sound (run (world_on (start_of b read_life write_life).bytes) es).state ≡ true
    ready-sound es h = let x = ready-started ready in
        ap (λ (w : World). sound (run w es).state) world_fresh ∙ reached-sound read_life write_life es x.read x.write h

    -- demand 3 from these bytes
    pub ready_demand_3 : (es fs : List Event) → AllKept (world_on (start_of b read_life write_life).bytes) (es ++ fs) → Consistent (run (world_on (start_of b read_life write_life).bytes) es)
    ready_demand_3 es fs h = rw world_fresh (demand_3 read_life write_life es fs (rw world_fresh at h))
