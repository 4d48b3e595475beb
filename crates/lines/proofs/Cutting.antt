-- A line is cut at its spaces. As long as no byte passed is a space, the fields from a place on are those of the bytes left, with the bytes passed before the first of them.
use Rattle.std.specs.Prelude.{if◌then◌else◌, ◌≢◌}
use Rattle.std.proofs.lemmas.List.{get_or-take, get_or-drop}
use mathlib.Core.Path.{◌≡◌, refl, sym, ◌∙◌}
use mathlib.Core.Bool.{Bool, true, false}
use mathlib.Core.List.{List, [], ◌∷◌, ◌++◌, append_assoc, append-nil}
use Prim.Native.Nat.{ℕ, zero, suc, ◌+◌, ◌-◌, ◌≤◌, ◌<◌}
use native.Mathlib.Nat.{add-zero}
use native.Mathlib.Numerals.{add-one}
use native.Mathlib.Omega.{arith}
use lib.Dec.{eqb}
use lib.ListN.{length, get_or, take, drop, drop_of_length-le}
use lib.Seq.{drop-cons}
use borrow.Author.Tests.{le-leb, lt-leb, eq-eqb, ne_eqb}
use Rattle.lent.specs.Bytes.{win}
use Rattle.lent.specs.Text.{space, onto}
use Rattle.lent.proofs.Splice.{win_to_none, win_to_more}
use Rattle.lines.specs.Fields.{Field, fields, fields_at, Ends}

-- w before the first field
abbrev pub prefixed : List ℕ → List Field → List Field
prefixed w [] = w ∷ []
prefixed w (f ∷ fs) = (w ++ f) ∷ fs

prefixed-onto : (w : List ℕ) (b : ℕ) (fs : List Field) → prefixed w (onto b fs) ≡ prefixed (w ++ (b ∷ [])) fs
prefixed-onto w b [] = refl
prefixed-onto w b (f ∷ fs) = rw append_assoc

none-onto : (b : ℕ) (fs : List Field) → prefixed [] (onto b fs) ≡ onto b fs
none-onto b [] = refl
none-onto b (f ∷ fs) = refl

none_cut : (s : Bool) (b : ℕ) (fs : List Field) → prefixed [] (if s then [] ∷ fs else onto b fs) ≡ (if s then [] ∷ fs else onto b fs)
none_cut true b fs = refl
none_cut false b fs = none-onto b fs

pub prefixed-none : (t : List ℕ) → prefixed [] (fields t) ≡ fields t
unfolding fields
prefixed-none [] = refl
prefixed-none (b ∷ t) = none_cut (eqb b space) b (fields t)

module _ (t : List ℕ) where
  pub fields_in : (at : ℕ) → at ≤ length t → fields_at t at ≡ fields (drop at t)
  unfolding fields_at
  fields_in at h = rw (le-leb at (length t) h)

  pub fields_past : (at : ℕ) → length t < at → fields_at t at ≡ []
  unfolding fields_at
  fields_past at h = rw (lt-leb at (length t) h)

  fields-space : (e : ℕ) → e < length t → get_or t e 0 ≡ space → fields (drop e t) ≡ [] ∷ fields_at t (e + 1)
  unfolding fields
  fields-space e h q = rw (fields_in (e + 1) (omega arith), add-one, drop-cons t e 0 h, eq-eqb (get_or t e 0) space q)

  fields_other : (e : ℕ) → e < length t → (get_or t e 0 ≡ space → ⊥) → fields (drop e t) ≡ onto (get_or t e 0) (fields (drop (e + 1) t))
  unfolding fields
  fields_other e h n = rw (add-one, drop-cons t e 0 h, ne_eqb (get_or t e 0) space n)

  fields_end : (e : ℕ) → length t ≤ e → fields (drop e t) ≡ [] ∷ fields_at t (e + 1)
  unfolding fields
  fields_end e h = rw (drop_of_length-le t h, fields_past (e + 1) (omega arith))

  pub end_start : (at : ℕ) → at ≤ length t → fields_at t at ≡ prefixed (win t at (at - at)) (fields (drop at t))
  end_start at h = rw (fields_in at h, win_to_none t at) (sym (prefixed-none (drop at t)))

  module _ (at e : ℕ) (from : at ≤ e) (passed : fields_at t at ≡ prefixed (win t at (e - at)) (fields (drop e t))) where
    pub end_turn : e < length t → (get_or t e 0 ≡ space → ⊥) → fields_at t at ≡ prefixed (win t at (e + 1 - at)) (fields (drop (e + 1) t))
    end_turn h n = passed ∙ rw (fields_other e h n, win_to_more t at e from h) (prefixed-onto (win t at (e - at)) (get_or t e 0) (fields (drop (e + 1) t)))

    ends : e ≤ length t → fields (drop e t) ≡ [] ∷ fields_at t (e + 1) → Ends t at e
    ends h q = record { from = from; within = h; cut = passed ∙ rw (q, append-nil) }

    pub end_space : e < length t → get_or t e 0 ≡ space → Ends t at e
    end_space h q = ends (omega arith) (fields-space e h q)

    pub end_line : e ≤ length t → length t ≤ e → Ends t at e
    end_line h l = ends h (fields_end e l)

  -- as many bytes as are no space are passed
  module _ (at : ℕ) (a : at ≤ length t) where
    passed-by : (n : ℕ) → at + n ≤ length t → ((k : ℕ) → k < n → get_or t (at + k) 0 ≢ space)
        → fields_at t at ≡ prefixed (win t at (at + n - at)) (fields (drop (at + n) t))
    passed-by zero h f = rw add-zero (end_start at a)
    passed-by (suc n) h f =
        let e : at + suc n ≡ at + n + 1 = omega arith in
        rw e (end_turn at (at + n) (omega arith) (passed-by n (omega arith) (λ k l. f k (omega arith))) (omega arith) (f n (omega arith)))

    -- what is left of the line, and its bytes
    abbrev pub rest_of : List ℕ
    rest_of = take (length t - at) (drop at t)

    rest_at : (k : ℕ) → k < length t - at → get_or rest_of k 0 ≡ get_or t (at + k) 0
    rest_at k h = get_or-take (length t - at) (drop at t) k 0 h ∙ get_or-drop at t k 0

    pub end_found : (n : ℕ) → n < length t - at → get_or rest_of n 0 ≡ space → ((k : ℕ) → k < n → get_or rest_of k 0 ≢ space) → Ends t at (at + n)
    end_found n h q f =
        end_space at (at + n) (omega arith) (passed-by n (omega arith) (λ k l. rw (rest_at k (omega arith)) at (f k l))) (omega arith) (sym (rest_at n h) ∙ q)

    pub end_none : ((k : ℕ) → k < length t - at → get_or rest_of k 0 ≢ space) → Ends t at (length t)
    end_none f =
        let e : at + (length t - at) ≡ length t = omega arith in
        rw e at (end_line at (at + (length t - at)) (omega arith) (passed-by (length t - at) (omega arith) (λ k l. rw (rest_at k (omega arith)) at (f k l))) (omega arith) (omega arith))
