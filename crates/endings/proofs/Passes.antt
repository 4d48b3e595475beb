-- A pass over a table that puts each entry through f is `map f`, and what it hands along from entry to entry is handed along the list.
-- Before place n the entries are new, from n on they are old, so the step at n finds the old entry. By induction on the steps.
use mathlib.Core.Path.{◌≡◌, refl, ◌∙◌}
use mathlib.Core.List.{List, [], ◌∷◌, ◌++◌, map, map-append, append-nil}
use Prim.Native.Nat.{ℕ, zero, suc, ◌≤◌, ◌<◌}
use native.Mathlib.Omega.{arith}
use lib.ListN.{length, get_or, set, take, drop, length-map}
use lib.Seq.{append_snoc, drop-cons, take-suc, take-length, drop-length, get_or_at, set_at, length-take-le}
use Rattle.lent.proofs.Walks.{iter}

module _ {A : Type 0} (f : A → A) where
  -- after n steps the entries before place n are new
  abbrev new_before : ℕ → List A → List A
  new_before n l = map f (take n l) ++ drop n l

  module _ (d : A) (l : List A) (n : ℕ) (h : n < length l) where
    new-length : length (map f (take n l)) ≡ n
    new-length = length-map (take n l) f ∙ length-take-le n l (omega arith)

    -- the next is old
    pub next-old : get_or (new_before n l) n d ≡ get_or l n d
    next-old = rw (drop-cons l n d h) (get_or_at (map f (take n l)) (get_or l n d) (drop (suc n) l) d n new-length)

    next-new : set (new_before n l) n (f (get_or l n d)) ≡ new_before (suc n) l
    next-new =
        let x : A = get_or l n d in
        rw (drop-cons l n d h, set_at (map f (take n l)) x (drop (suc n) l) (f x) n new-length, take-suc l n d h, map-append, append_snoc)

-- b handed along the entries
module _ {A B : Type 0} (g : A → B → B) where
  abbrev pub along : List A → B → B
  along [] b = b
  along (x ∷ l) b = along l (g x b)

  along_snoc : (l : List A) (x : A) (b : B) → along (l ++ (x ∷ [])) b ≡ g x (along l b)
  along_snoc [] x b = refl
  along_snoc (y ∷ l) x b = along_snoc l x (g y b)

-- a loop over a table that lies, beside b, in something larger
module _ {A B S : Type 0} (f : A → A) (g : A → B → B) (d : A) (with : List A → B → S) (step : ℕ → S → S)
    (turn : (i : ℕ) (l : List A) (b : B) → step i (with l b) ≡ with (set l i (f (get_or l i d))) (g (get_or l i d) b)) (l : List A) (b : B) where
  pub pass_part : (n : ℕ) → n ≤ length l → iter step n (with l b) ≡ with (new_before f n l) (along g (take n l) b)
  unfolding iter
  pass_part zero h = refl
  pass_part (suc n) h =
      let handed : along g (take (suc n) l) b ≡ g (get_or l n d) (along g (take n l) b) = rw (take-suc l n d h) (along_snoc g (take n l) (get_or l n d) b) in
      rw (pass_part n (omega arith), turn n (new_before f n l) (along g (take n l) b), next-old f d l n h, next-new f d l n h, handed)

  pub pass_whole : (n : ℕ) → length l ≡ n → iter step n (with l b) ≡ with (map f l) (along g l b)
  pass_whole n e = rw (← e, pass_part (length l) (omega arith), take-length, drop-length, append-nil)
