-- Tables of records of w bytes: what is read at a place, put there, or compared in the bytes is that of the list of records. Each law goes
-- by the first record, behind which the rest of the table lies w bytes further.
use mathlib.Core.Path.{◌≡◌, refl, sym, ap, ◌∙◌}
use mathlib.Core.Bool.{Bool, ◌&&◌, and_assoc}
use mathlib.Core.List.{List, [], ◌∷◌, ◌++◌, append_assoc}
use Prim.Native.Nat.{ℕ, zero, suc, ◌+◌, ◌*◌, ◌≤◌, ◌<◌}
use native.Mathlib.Nat.{le_of_suc-le-suc, mul-le-mul_right, not-suc-le-zero, suc-mul, zero-add, zero-mul}
use native.Mathlib.Omega.{arith}
use lib.ListN.{length, get_or, set, take, drop, replicate, length-append, length-drop, replicate-append-replicate}
use lib.Seq.{drop_at, drop-drop, length-take-le, take_at}
use Rattle.lent.specs.Bytes.{splice, win, zeros}
use Rattle.lent.specs.Tables.{Each, every, read_tab, same, tab_of}
use Rattle.lent.proofs.Equal.{same_split}
use Rattle.lent.proofs.Splice.{splice-append, win-append, win-drop}
use Rattle.lent.proofs.Walks.{every_cong, every_front, every-none}

-- record i of n lies within the table
pub place-fits : (i n w : ℕ) → i < n → i * w + w ≤ n * w
place-fits i n w h = let p : suc i * w ≤ n * w = mul-le-mul_right w h in omega (arith, suc-mul i w)

-- record i + 1 lies w bytes behind record i
place-next : (i w : ℕ) → suc i * w ≡ w + i * w
place-next i w = omega arith

-- ---- a fact of each record

module _ {A : Type 0} (P : A → Type 0) where
  pub each_at : (xs : List A) (d : A) (i : ℕ) → i < length xs → Each P xs → P (get_or xs i d)
  unfolding Each
  each_at [] d i h e = absurd (not-suc-le-zero h)
  each_at (x ∷ xs) d zero h e = e.0
  each_at (x ∷ xs) d (suc i) h e = each_at xs d i (le_of_suc-le-suc h) e.1

  pub at_each : (xs : List A) (d : A) → ((i : ℕ) → i < length xs → P (get_or xs i d)) → Each P xs
  unfolding Each
  at_each [] d f = tt
  at_each (x ∷ xs) d f = (f 0 (omega arith), at_each xs d (λ i h. f (suc i) (omega arith)))

  pub each_set : (xs : List A) (i : ℕ) (y : A) → P y → Each P xs → Each P (set xs i y)
  unfolding Each
  each_set [] i y p e = e
  each_set (x ∷ xs) zero y p e = (p, e.1)
  each_set (x ∷ xs) (suc i) y p e = (e.0, each_set xs i y p e.1)

  pub each_map : (Q : A → Type 0) (xs : List A) → ((x : A) → P x → Q x) → Each P xs → Each Q xs
  unfolding Each
  each_map Q [] f e = tt
  each_map Q (x ∷ xs) f e = (f x e.0, each_map Q xs f e.1)

-- ---- records to bytes

module _ {A : Type 0} (enc : A → List ℕ) (w : ℕ) where
  -- each record has w bytes
  abbrev pub Wide : List A → Type 0
  Wide xs = Each (λ x. length (enc x) ≡ w) xs

  pub length_tab : (xs : List A) → Wide xs → length (tab_of enc xs) ≡ length xs * w
  unfolding tab_of Each
  length_tab [] e = sym (zero-mul w)
  length_tab (x ∷ xs) e = simp (length-append, e.0, length_tab xs e.1) (omega arith)

  win_tab : (xs : List A) (q : List ℕ) (d : A) (i : ℕ) → Wide xs → i < length xs → win (tab_of enc xs ++ q) (i * w) w ≡ enc (get_or xs i d)
  unfolding tab_of Each win
  win_tab [] q d i e h = absurd (not-suc-le-zero h)
  win_tab (x ∷ xs) q d zero e h = rw (zero-mul, append_assoc, take_at (enc x) _ w e.0)
  win_tab (x ∷ xs) q d (suc i) e h =
      rw (append_assoc, place-next i w) (win-append (enc x) (tab_of enc xs ++ q) w (i * w) w e.0 ∙ win_tab xs q d i e.1 (le_of_suc-le-suc h))

  put_tab : (xs : List A) (q : List ℕ) (y : A) (i : ℕ) → Wide xs → length (enc y) ≡ w → i < length xs → splice (tab_of enc xs ++ q) (i * w) (enc y) ≡ tab_of enc (set xs i y) ++ q
  unfolding tab_of Each splice
  put_tab [] q y i e l h = absurd (not-suc-le-zero h)
  put_tab (x ∷ xs) q y zero e l h = rw (zero-mul, l, zero-add, append_assoc, drop_at (enc x) _ w e.0, append_assoc)
  put_tab (x ∷ xs) q y (suc i) e l h =
      rw (append_assoc, place-next i w, append_assoc) (splice-append (enc x) (tab_of enc xs ++ q) (enc y) w (i * w) e.0 ∙ ap (λ (r : List ℕ). enc x ++ r) (put_tab xs q y i e.1 l (le_of_suc-le-suc h)))

  -- records that are all zeros
  pub tab_zeros : (n : ℕ) (x : A) → enc x ≡ zeros w → tab_of enc (replicate n x) ≡ zeros (n * w)
  unfolding tab_of
  tab_zeros zero x e = rw zero-mul
  tab_zeros (suc n) x e = rw (e, tab_zeros n x e, replicate-append-replicate, place-next n w)

  -- behind a front p of n bytes
  module _ (p : List ℕ) (n : ℕ) (f : length p ≡ n) (xs : List A) (q : List ℕ) (e : Wide xs) where
    pub win_tab_at : (d : A) (i : ℕ) → i < length xs → win (p ++ (tab_of enc xs ++ q)) (n + i * w) w ≡ enc (get_or xs i d)
    win_tab_at d i h = win-append p (tab_of enc xs ++ q) n (i * w) w f ∙ win_tab xs q d i e h

    pub put_tab_at : (y : A) (i : ℕ) → length (enc y) ≡ w → i < length xs → splice (p ++ (tab_of enc xs ++ q)) (n + i * w) (enc y) ≡ p ++ (tab_of enc (set xs i y) ++ q)
    put_tab_at y i l h = splice-append p (tab_of enc xs ++ q) (enc y) n (i * w) f ∙ ap (λ (r : List ℕ). p ++ r) (put_tab xs q y i e l h)

-- ---- bytes to records

module _ {A : Type 0} (dec : List ℕ → A) (w : ℕ) where
  pub length_read_lem : (n : ℕ) (l : List ℕ) → length (read_tab dec w n l) ≡ n
  unfolding read_tab
  length_read_lem zero l = refl
  length_read_lem (suc n) l = ap suc (length_read_lem n (drop w l))

  read_at : (n : ℕ) (l : List ℕ) (d : A) (i : ℕ) → i < n → get_or (read_tab dec w n l) i d ≡ dec (win l (i * w) w)
  unfolding read_tab win
  read_at zero l d i h = absurd (not-suc-le-zero h)
  read_at (suc n) l d zero h = rw zero-mul
  read_at (suc n) l d (suc i) h = read_at n (drop w l) d i (le_of_suc-le-suc h) ∙ rw (drop-drop (i * w) w l, place-next i w)

  -- behind the first a bytes
  pub read_tab_at : (n : ℕ) (s : List ℕ) (a : ℕ) (d : A) (i : ℕ) → i < n → get_or (read_tab dec w n (drop a s)) i d ≡ dec (win s (a + i * w) w)
  read_tab_at n s a d i h = read_at n (drop a s) d i h ∙ rw (win-drop s a (i * w) w)

-- ---- there and back

module _ {A : Type 0} (enc : A → List ℕ) (dec : List ℕ → A) (w : ℕ) where
  -- records that are written and read
  pub read_tab_lem : (xs : List A) (q : List ℕ) (n : ℕ) → length xs ≡ n → Wide enc w xs → Each (λ x. dec (enc x) ≡ x) xs → read_tab dec w n (tab_of enc xs ++ q) ≡ xs
  unfolding tab_of read_tab Each
  read_tab_lem [] q n l e r = rw (← l)
  read_tab_lem (x ∷ xs) q n l e r =
      rw (← l, append_assoc, take_at (enc x) _ w e.0, drop_at (enc x) _ w e.0, r.0, read_tab_lem xs q (length xs) refl e.1 r.1)

  -- bytes compared with what is read and written again: record by record. A record that is read is written in w bytes
  module _ (wide : (x : List ℕ) → length x ≡ w → length (enc (dec x)) ≡ w) where
    abbrev again : List ℕ → ℕ → Bool
    again l i = same (win l (i * w) w) (enc (dec (win l (i * w) w)))

    same_tab : (n : ℕ) (l q : List ℕ) → n * w ≤ length l
        → same l (tab_of enc (read_tab dec w n l) ++ q) ≡ every (λ i. again l i) n && same (drop (n * w) l) q
    unfolding tab_of read_tab win
    same_tab zero l q h = rw (zero-mul, every-none)
    same_tab (suc n) l q h =
        let x : List ℕ = take w l in
        let y : List ℕ = drop w l in
        let z : again l 0 ≡ same x (enc (dec x)) = rw zero-mul in
        let e : every (again y) n ≡ every (λ i. again l (suc i)) n = every_cong (again y) (λ i. again l (suc i)) n (λ i k. rw (drop-drop (i * w) w l, place-next i w)) in
        let split = same_split l (enc (dec x)) (tab_of enc (read_tab dec w n y) ++ q) w (wide x (length-take-le w l (omega arith))) (omega arith) in
        rw (append_assoc, split, same_tab n y q (simp length-drop (omega arith)), e, drop-drop (n * w) w l, place-next n w, every_front (again l) n, z)
        (sym (and_assoc (same x (enc (dec x))) (every (λ i. again l (suc i)) n) (same (drop (w + n * w) l) q)))

    -- behind the first a bytes
    pub same_tab_at : (n : ℕ) (s : List ℕ) (a : ℕ) (q : List ℕ) → a + n * w ≤ length s
        → same (drop a s) (tab_of enc (read_tab dec w n (drop a s)) ++ q) ≡ every (λ i. same (win s (a + i * w) w) (enc (dec (win s (a + i * w) w)))) n && same (drop (a + n * w) s) q
    same_tab_at n s a q h = simp (win-drop, drop-drop) at (same_tab n (drop a s) q (simp length-drop (omega arith)))
