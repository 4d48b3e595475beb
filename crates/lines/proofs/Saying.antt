-- What a field says where the code has found its end, and what is given once the value that may follow is read. Each law is a case of a definition.
use Rattle.std.specs.Prelude.{Some, None, unwrap_or, Option as ProgramOption}
use mathlib.Core.Path.{◌≡◌, refl, sym, ap, ◌∙◌}
use mathlib.Core.Bool.{true}
use mathlib.Core.List.{List, [], ◌∷◌}
use mathlib.Core.Option.{Option, none, some}
use Prim.Native.Nat.{ℕ, ◌+◌, ◌-◌, ◌≤◌, ◌<◌}
use native.Mathlib.Omega.{arith}
use lib.ListN.{length, take, drop, get_or}
use borrow.Author.Tests.{lt-ltb, le-ltb}
use Rattle.lent.specs.Bytes.{splice, win}
use Rattle.lent.proofs.Splice.{win-one, length-win, splice-none}
use Rattle.lent.proofs.Choices.{zero_one}
use Rattle.hex_text.specs.Hex.{read_hex, length_read, value_read}
use Rattle.lines.specs.Fields.{Field, fields, fields_at, Ends, ◌>>=◌, read_number, number_of, number, letter, up_to, last_value, at_end}
use Rattle.lines.specs.Lines.{Read, or_unreadable, unvalued_any, Gives, GivesAny}
use Rattle.lines.specs.declared.Line.{Line}
use Rattle.lines.proofs.Cutting.{prefixed, prefixed-none, fields_in, fields_past}

-- ---- the end of the fields

at_end_more : {A : Type 0} (fs : List Field) (x : A) → at_end (prefixed [] fs) x ≡ none
at_end_more [] x = refl
at_end_more (f ∷ fs) x = refl

module _ {A : Type 0} (t : List ℕ) (at : ℕ) (x : A) where
  pub at_end_in : at ≤ length t → at_end (fields_at t at) x ≡ none
  at_end_in h = rw (fields_in t at h, ← prefixed-none (drop at t)) (at_end_more (fields (drop at t)) x)

  pub at_end_past : length t < at → at_end (fields_at t at) x ≡ some x
  at_end_past h = rw (fields_past t at h)

-- ---- a field as a number

pub number_cut : (t : List ℕ) (at e : ℕ) (n : ProgramOption ℕ) → Ends t at e → n ≡ read_number (take (e - at) (drop at t)) → number true (fields_at t at) ≡ number_of n (fields_at t (e + 1))
unfolding win
number_cut t at e n c q = rw (c.cut, q)

-- ---- a letter

letter-long : (f : Field) (fs : List Field) → (length f ≡ 1 → ⊥) → letter (f ∷ fs) ≡ none
letter-long [] fs h = refl
letter-long (b ∷ []) fs h = absurd (h refl)
letter-long (b ∷ c ∷ f) fs h = refl

module _ (t : List ℕ) (at e : ℕ) (c : Ends t at e) where
  pub letter_not : (e - at ≡ 1 → ⊥) → letter (fields_at t at) ≡ none
  letter_not h =
      let l : length (win t at (e - at)) ≡ e - at = length-win t at (e - at) (omega arith) in
      rw c.cut (letter-long (win t at (e - at)) (fields_at t (e + 1)) (λ (q : length (win t at (e - at)) ≡ 1). h (omega arith)))

  pub letter_is : e - at ≡ 1 → letter (fields_at t at) ≡ some (record { letter = get_or t at 0; rest = fields_at t (e + 1) })
  letter_is h = rw (c.cut, h, win-one t at (omega arith))

-- ---- the last field as a value

value_more : (most : ℕ) (f : Field) (fs : List Field) → last_value most (f ∷ prefixed [] fs) ≡ none
value_more most f [] = refl
value_more most f (g ∷ fs) = refl

module _ (most : ℕ) (t : List ℕ) (at : ℕ) where
  pub value_past : length t < at → last_value most (fields_at t at) ≡ none
  value_past h = rw (fields_past t at h)

  module _ (e : ℕ) (c : Ends t at e) where
    pub value_not_last : e < length t → last_value most (fields_at t at) ≡ none
    value_not_last h = rw (c.cut, fields_in t (e + 1) (omega arith), ← prefixed-none (drop (e + 1) t)) (value_more most (win t at (e - at)) (fields (drop (e + 1) t)))

    pub value_last : length t ≤ e → last_value most (fields_at t at) ≡ up_to most (read_hex (take (e - at) (drop at t)))
    unfolding win
    value_last h = rw (c.cut, fields_past t (e + 1) (omega arith))

length_read_not : (o : Option (List ℕ)) → length_read o ≡ None → o ≡ none
length_read_not none e = refl
length_read_not (some v) e = zero_one cc

length_read_is : (o : Option (List ℕ)) (n : ℕ) → length_read o ≡ Some n → (o ≡ some (value_read o)) × (length (value_read o) ≡ n)
length_read_is none n e = zero_one cc
length_read_is (some v) n e = (refl, cc)

module _ (most : ℕ) (o : Option (List ℕ)) (r : ProgramOption ℕ) (a : r ≡ length_read o) where
  pub up_to_not : r ≡ None → up_to most o ≡ none
  up_to_not e = rw (length_read_not o (sym a ∙ e))

  module _ (n : ℕ) (e : r ≡ Some n) where
    pub up_to_long : most < n → up_to most o ≡ none
    up_to_long h =
        let p = length_read_is o n (sym a ∙ e) in
        ap (up_to most) p.0 ∙ rw (lt-ltb most (length (value_read o)) (omega (arith, p.1)))

    pub up_to_all : n ≤ most → up_to most o ≡ o
    up_to_all h =
        let p = length_read_is o n (sym a ∙ e) in
        ap (up_to most) p.0 ∙ rw (le-ltb most (length (value_read o)) (omega (arith, p.1))) (sym p.0)

-- ---- what is given

-- no value is read, and the buffer stays
pub unread : {o : Option (List ℕ)} {v : List ℕ} → o ≡ none → (None ≡ length_read o) × (v ≡ splice v 0 (value_read o))
unread {v = v} e = rw e (refl, sym (splice-none v 0))

-- what reads no value leaves the buffer
pub gives_unvalued : (o : Option Read) (r : ProgramOption Line) (s : List ℕ) → o ≡ unvalued_any r → GivesAny o r s s
gives_unvalued o None s e = rw e (record { line = refl; value = sym (splice-none s 0) })
gives_unvalued o (Some l) s e = rw e (record { line = refl; value = sym (splice-none s 0) })

pub gives_none : (s : List ℕ) → GivesAny none None s s
gives_none s = gives_unvalued none None s refl

-- a line by the length of its value, where one is read
abbrev pub valued_line : (ℕ → Line) → ProgramOption ℕ → ProgramOption Line
valued_line k None = None
valued_line k (Some n) = Some (k n)

-- what is given by what may be read as a value, once it is read into the buffer
abbrev pub GivesBy : Option (List ℕ) → Option Read → (ℕ → Line) → List ℕ → Type 0
GivesBy o x k before = (y r : ProgramOption ℕ) (after : List ℕ) → (y ≡ length_read o) × (after ≡ splice before 0 (value_read o)) → y ≡ r → GivesAny x (valued_line k r) before after

pub gives_valued : (o : Option (List ℕ)) (k : ℕ → Line) {before : List ℕ} → GivesBy o (o >>= λ v. some (record { line = k (length v); value = v })) k before
gives_valued none k y r after e q = record { line = ap (valued_line k) (sym q ∙ e.0); value = e.1 }
gives_valued (some v) k y r after e q = record { line = ap (valued_line k) (sym q ∙ e.0); value = e.1 }

-- a line that may not be read is read all the same
pub gives_read : (o : Option Read) (r : ProgramOption Line) (before after : List ℕ) → GivesAny o r before after → Gives (or_unreadable o) (unwrap_or r Line.Unreadable) before after
gives_read none r before after g = record { line = ap (λ (x : ProgramOption Line). unwrap_or x Line.Unreadable) g.line; value = g.value }
gives_read (some x) r before after g = record { line = ap (λ (x : ProgramOption Line). unwrap_or x Line.Unreadable) g.line; value = g.value }
