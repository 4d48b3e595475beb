-- What a session finds that stages, case by case in the order of the refusals: the asker, its row on the key, the row's kind, the step.
-- Each test of the definition's list is decided by what the searches found.
use Rattle.machine.specs.declared.Refusal.{Refusal}
use Rattle.std.specs.Prelude.{if◌then◌else◌, Some, None, Result, Ok, Err}
use mathlib.Core.Path.{◌≡◌, refl}
use mathlib.Core.Bool.{Bool, true, false, not}
use mathlib.Core.List.{List, [], ◌∷◌}
use mathlib.Core.Option.{none, some}
use Prim.Native.Nat.{ℕ}
use native.Mathlib.Omega.{arith}
use lib.Dec.{eqb, ltb}
use lib.ListN.{length}
use borrow.Author.Tests.{eq-eqb, ne_eqb, ltb-true}
use Rattle.machine.specs.Sizes.{row_count}
use Rattle.machine.specs.Session.{advanced, step_of}
use Rattle.machine.specs.State.{no_row, State, free_row, of_on, kind_of, row_place, row_of, row_at}
use Rattle.machine.specs.Refusals.{count_of}
use Rattle.machine.specs.Words.{NO-LEASE, KIND, AHEAD}
use Rattle.machine.specs.declared.Session.{Session}
use Rattle.machine.specs.declared.Step.{Step}
use Rattle.machine.proofs.Views.{of-on-taken}
use Rattle.layout.specs.Search.{found}
use Rattle.layout.proofs.Search.{found-at, found_passes, nothing_entry}
use Rattle.askers.specs.Asker.{asker_of}
use Rattle.askers.specs.declared.Asker.{Asker}
use Rattle.askers.proofs.Asked.{asks, first_asker}
use Rattle.stages.specs.Staging.{or_else, staging_of}
use Rattle.stages.specs.declared.Staging.{Staging}

-- the tests of the row, of its kind and of the step
abbrev row_tests : State → ℕ → ℕ → ℕ → ℕ → List (Bool × Refusal)
row_tests s n step k kind = (free_row (row_of s n k), NO-LEASE) ∷ (not (eqb (kind_of (row_of s n k)) kind), KIND) ∷ (ltb (count_of s n) step, AHEAD) ∷ []

-- the step of the session at place i, in the row at place j
abbrev pub stepped : ℕ → ℕ → Step → Result Staging Refusal
stepped i j Step.Repeats = Ok Staging.Repeated
stepped i j Step.Ahead = Err AHEAD
stepped i j (Step.Acts x) = Ok (Staging.At i j x)

step_decides : (x : Session) (step i j : ℕ) → or_else (if ltb x.count step then some AHEAD else none) (if ltb step x.count then Staging.Repeated else Staging.At i j (advanced x)) ≡ stepped i j (step_of x step)
step_decides x step i j = go (ltb x.count step) (ltb step x.count) refl refl
  where
    go : (t u : Bool) → ltb x.count step ≡ t → ltb step x.count ≡ u
        → or_else (if t then some AHEAD else none) (if u then Staging.Repeated else Staging.At i j (advanced x)) ≡ stepped i j (if u then Step.Repeats else if t then Step.Ahead else Step.Acts (advanced x))
    go true true p q = let a = ltb-true x.count step p in let b = ltb-true step x.count q in absurd (omega arith)
    go true false p q = refl
    go false true p q = refl
    go false false p q = refl

module _ (s : State) (n step k kind : ℕ) where
  pub staging_refused : (e : Refusal) → asker_of s n ≡ Err e → staging_of s n step k kind ≡ Err e
  unfolding staging_of
  staging_refused e q = rw (first_asker s n (row_tests s n step k kind), q)

  -- an open session, at its place
  module _ (a : Asker) (q : asker_of s n ≡ Ok a) (l : length s.rows ≡ row_count) where
    pub staging_rowless : found row_count (row_place s n k) ≡ None → staging_of s n step k kind ≡ Err NO-LEASE
    unfolding staging_of
    staging_rowless f = rw (first_asker s n (row_tests s n step k kind), q, nothing_entry (of_on n k) no_row s.rows row_count l f)

    -- its row at place j
    module _ (j : ℕ) (f : found row_count (row_place s n k) ≡ Some j) where
      taken : free_row (row_at s j) ≡ false
      taken = of-on-taken n k (row_at s j) (found_passes (of_on n k) no_row s.rows row_count j l f)

      pub staging_kind : (kind_of (row_at s j) ≡ kind → ⊥) → staging_of s n step k kind ≡ Err KIND
      unfolding staging_of
      staging_kind e = rw (first_asker s n (row_tests s n step k kind), q, (found-at row_count (row_place s n k) j f).0, taken, ne_eqb (kind_of (row_at s j)) kind e)

      pub staging_steps : (d : Step) → kind_of (row_at s j) ≡ kind → step_of a.session step ≡ d → staging_of s n step k kind ≡ stepped a.place j d
      unfolding staging_of
      staging_steps d e p =
          let b = asks s n a q in
          rw (first_asker s n (row_tests s n step k kind), q, (found-at row_count (row_place s n k) j f).0, taken, eq-eqb (kind_of (row_at s j)) kind e, b.place, b.at, ← p)
          (step_decides a.session step a.place j)
