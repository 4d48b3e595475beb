-- A run takes its events one by one, so what each event gives of the run that begins with it, it gives of every run, and what each event keeps,
-- the run keeps.
use mathlib.Core.Path.{◌≡◌}
use mathlib.Core.List.{List, [], ◌∷◌, ◌++◌}

-- from what A says of a run to what B says of it, an event at a time
pub run_gives : {W E : Type 0} (next : W → E → W) (A B : W → List E → Type 0) → ((w : W) → A w [] → B w []) → ((w : W) (e : E) (es : List E) → A w (e ∷ es) → A (next w e) es × (B (next w e) es → B w (e ∷ es)))
    → (w : W) (es : List E) → A w es → B w es
run_gives next A B end more w [] a = end w a
run_gives next A B end more w (e ∷ es) a = let r = more w e es a in r.1 (run_gives next A B end more (next w e) es r.0)

-- what is said of a list by its first and the rest holds of each first part
pub front_kept : {E : Type 0} (All : List E → Type 0) → All [] → ((e : E) (es gs : List E) → All (e ∷ gs) → All gs × (All es → All (e ∷ es))) → (es fs : List E) → All (es ++ fs) → All es
front_kept All none more [] fs x = none
front_kept All none more (e ∷ es) fs x = let r = more e es (es ++ fs) x in r.1 (front_kept All none more es fs r.0)

-- the run of any world through any events, which are as `Ok` says
module _ {W E : Type 0} (next : W → E → W) (run : W → List E → W) (still : (w : W) → run w [] ≡ w) (first : (w : W) (e : E) (es : List E) → run w (e ∷ es) ≡ run (next w e) es) where
  pub run_keeps : (Ok : W → List E → Type 0) (P : W → Type 0) → ((w : W) (e : E) (es : List E) → Ok w (e ∷ es) → P w → P (next w e) × Ok (next w e) es) → (w : W) (es : List E) → Ok w es → P w → P (run w es)
  run_keeps Ok P keeps w [] ok p = rw (still w) p
  run_keeps Ok P keeps w (e ∷ es) ok p = let r = keeps w e es ok p in rw (first w e es) (run_keeps Ok P keeps (next w e) es r.1 r.0)
