-- What a command that stages answers and leaves, told by what its session found: a refusal and REPEATED keep the state; otherwise the
-- session's next record and what is staged are set at the places that were found. And what is known there of the session and its row.
use Rattle.machine.specs.declared.Refusal.{Refusal}
use Rattle.std.specs.Prelude.{if◌then◌else◌, Result, Ok, Err}
use mathlib.Core.Path.{◌≡◌, refl, ap}
use mathlib.Core.Bool.{Bool, true, false}
use mathlib.Core.List.{List}
use mathlib.Core.Option.{Option, none, some}
use Prim.Native.Nat.{ℕ, ◌≤◌, ◌<◌, ◌^◌}
use native.Mathlib.Omega.{arith}
use lib.Dec.{ltb}
use lib.ListN.{set}
use Rattle.lent.proofs.Choices.{zero_one}
use Rattle.machine.specs.Sizes.{step_max}
use Rattle.machine.specs.Tables.{first}
use Rattle.machine.specs.Session.{advanced}
use Rattle.machine.specs.State.{Slot, session, Staged, State, free_row, session_place, session_of, row_place, row_of, row_at}
use Rattle.machine.specs.Expiry.{with_sessions, with_rows}
use Rattle.machine.specs.Refusals.{count_of, staging_refusals}
use Rattle.machine.specs.Effects.{Outcome, told, staged_answer, restaged, on_slot, with_session, with_staged, stages}
use Rattle.machine.specs.Sound.{sound}
use Rattle.machine.specs.declared.Session.{Session}
use Rattle.machine.specs.declared.Answer.{Answer}
use Rattle.machine.proofs.Views.{first-none}
use Rattle.machine.proofs.Accepted.{session_of_lem}
use Rattle.machine.proofs.SoundFacts as facts
use Rattle.layout.specs.Fields.{session_in}
use Rattle.outcome.specs.Outcome.{unless}
use Rattle.stages.specs.Staging.{or_else, staging_of}
use Rattle.stages.specs.declared.Staging.{Staging}

-- the session at place i is x, and the row at place j has u staged
abbrev pub after_staging : State → ℕ → ℕ → Session → Staged → State
after_staging s i j x u = with_rows (with_sessions s (set s.sessions i (session x))) (set s.rows j (restaged u (row_at s j)))

-- the outcome, u being what is to be staged
abbrev pub staged_by : State → Staged → Result Staging Refusal → Outcome
staged_by s u (Err e) = told (Answer.Refused e) s
staged_by s u (Ok Staging.Repeated) = told Answer.Repeated s
staged_by s u (Ok (Staging.At i j x)) = told (staged_answer u) (after_staging s i j x u)

-- the session's next record x, and its row on key k at place j
pub record Stages (s : State) (n k j : ℕ) (x : Session) : Type 0 where
  pub row : row_of s n k ≡ row_at s j
  pub taken : free_row (row_at s j) ≡ false
  pub number : 0 < x.number
  pub count : x.count < 2 ^ 16

module _ (s : State) (n step k kind : ℕ) where
  abbrev tests : List (Bool × Refusal)
  tests = staging_refusals s n step k kind

  -- where no test refuses, the session is live
  live : first tests ≡ none → session_of s n ≡ session (session_in (session_of s n))
  live e = let r = session_of_lem s n (first-none tests e 0) in rw r.1

  pub staged_by_lem : (u : Staged) {r : Result Staging Refusal} → staging_of s n step k kind ≡ r → unless (first tests) s (stages s n step k u) ≡ staged_by s u r
  unfolding stages staging_of
  staged_by_lem u e = rw (← e) (go (first tests) refl (ltb step (count_of s n)))
    where
      set_next : first tests ≡ none → with_staged (with_session s n advanced) n k u ≡ after_staging s (session_place s n) (row_place s n k) (advanced (session_in (session_of s n))) u
      set_next e = ap (λ (y : Slot). with_staged (with_sessions s (set s.sessions (session_place s n) y)) n k u) (ap (on_slot advanced) (live e))

      go : (o : Option Refusal) → first tests ≡ o → (t : Bool)
          → unless o s (if t then told Answer.Repeated s else told (staged_answer u) (with_staged (with_session s n advanced) n k u))
          ≡ staged_by s u (or_else o (if t then Staging.Repeated else Staging.At (session_place s n) (row_place s n k) (advanced (session_in (session_of s n)))))
      go (some e) q t = refl
      go none q true = refl
      go none q false = ap (told (staged_answer u)) (set_next q)

  pub staging_at : sound s ≡ true → (i j : ℕ) (x : Session) → staging_of s n step k kind ≡ Ok (Staging.At i j x) → Stages s n k j x
  unfolding staging_of
  staging_at ok i j x e = go (first tests) refl (ltb step (count_of s n)) e
    where
      y : Session
      y = session_in (session_of s n)

      go : (o : Option Refusal) → first tests ≡ o → (t : Bool) → or_else o (if t then Staging.Repeated else Staging.At (session_place s n) (row_place s n k) (advanced y)) ≡ Ok (Staging.At i j x) → Stages s n k j x
      go (some d) q t p = zero_one cc
      go none q true p = zero_one cc
      go none q false p =
          let a : row_place s n k ≡ j = cc in
          let b : advanced y ≡ x = cc in
          let number : 1 ≤ y.number = (facts.session_number s ok (session_place s n) {x = y} (live q)).0 in
          let count : y.count ≤ step_max = facts.session_count_lem s ok (session_place s n) {x = y} (live q) in
          record {
            row = rw a;
            taken = rw (← a) (first-none tests q 2);
            number = rw (← b) (omega arith);
            count = rw (← b) (omega arith);
          }

  -- there the session's next record can be stored, and then the row staged in
  pub staging_stored : sound s ≡ true → {i j : ℕ} {x : Session} → staging_of s n step k kind ≡ Ok (Staging.At i j x) → {A B : Type 0}
      → (0 < x.number → x.count < 2 ^ 16 → A) → (A → free_row (row_at s j) ≡ false → B) → B
  staging_stored ok e store stage = let a = staging_at ok _ _ _ e in stage (store a.number a.count) a.taken
