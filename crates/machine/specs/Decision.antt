-- 01, "Who may have what": the decision table of twenty entries, held against asked.
use Rattle.std.specs.Prelude.{Bool, true, false, List, [], ◌∷◌, ℕ, get_or}
use Rattle.machine.specs.declared.Verdict.{Verdict}
use Rattle.machine.specs.declared.Verdict.TheVariants.{Grant, Void, BackOff, Abort}

-- held none, I, Q1, Q2, Q3; asked I, Q1, Q2, Q3
abbrev pub held_count : ℕ
held_count = 5

abbrev pub asked_count : ℕ
asked_count = 4

abbrev pub decisions : List (List Verdict)
decisions =
    (Grant ∷ Grant ∷ Grant ∷ Grant ∷ [])
    ∷ (BackOff ∷ Void ∷ Void ∷ Void ∷ [])
    ∷ (BackOff ∷ Grant ∷ Abort ∷ Abort ∷ [])
    ∷ (BackOff ∷ Abort ∷ Abort ∷ Abort ∷ [])
    ∷ (BackOff ∷ Abort ∷ Abort ∷ Abort ∷ [])
    ∷ []

-- what is held, by its place: 0 none, 1 I, one more than the kind of Q; what is asked: 0 I, else the kind
unfoldable pub decision : ℕ → ℕ → Verdict
decision held asked = get_or (get_or decisions held []) asked Abort

abbrev pub grants : Verdict → Bool
grants Grant = true
grants Void = true
grants BackOff = false
grants Abort = false
