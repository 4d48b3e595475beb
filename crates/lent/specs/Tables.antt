-- Walks over the indices of a table, and tables of records that lie in a list of bytes.
use Rattle.std.specs.Prelude.{if◌then◌else◌, ℕ, zero, suc, Bool, true, false, ◌&&◌, ◌||◌, List, [], ◌∷◌, ◌++◌, take, drop, eqb}

-- p holds at each index below n
unfoldable pub every : (ℕ → Bool) → ℕ → Bool
every p zero = true
every p (suc n) = every p n && p n

-- p holds at some index below n
unfoldable pub some : (ℕ → Bool) → ℕ → Bool
some p zero = false
some p (suc n) = some p n || p n

-- the first of the n indices from i at which p holds, as `hit` says it, or `miss`
unfoldable pub first : {A : Type 0} → (ℕ → Bool) → (ℕ → A) → A → ℕ → ℕ → A
first p hit miss i zero = miss
first p hit miss i (suc n) = let r = first p hit miss (suc i) n in if p i then hit i else r

-- every element is 0
unfoldable pub all_zero : List ℕ → Bool
all_zero [] = true
all_zero (x ∷ xs) = eqb x 0 && all_zero xs

-- two lists have the same elements
unfoldable pub same : List ℕ → List ℕ → Bool
same [] [] = true
same [] (y ∷ ys) = false
same (x ∷ xs) [] = false
same (x ∷ xs) (y ∷ ys) = eqb x y && same xs ys

-- a table: its records' bytes, one after the other
unfoldable pub tab_of : {A : Type 0} → (A → List ℕ) → List A → List ℕ
tab_of enc [] = []
tab_of enc (x ∷ xs) = enc x ++ tab_of enc xs

-- the first n records of w bytes
unfoldable pub read_tab : {A : Type 0} → (List ℕ → A) → ℕ → ℕ → List ℕ → List A
read_tab dec w zero l = []
read_tab dec w (suc n) l = dec (take w l) ∷ read_tab dec w n (drop w l)

-- P holds of each record
unfoldable pub Each : {A : Type 0} → (A → Type 0) → List A → Type 0
Each P [] = Unit
Each P (x ∷ xs) = P x × Each P xs
