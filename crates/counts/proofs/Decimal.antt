-- The digits of n are its w lowest digits, where w is how many it has: a division by ten for each. Each law goes down those divisions, over
-- any bound on the digits, and is then said of `decimal`.
use Rattle.std.specs.Prelude.{if◌then◌else◌}
use Rattle.std.proofs.Common.{◌≡◌, ℕ, zero, suc, ◌+◌, ◌-◌, ◌*◌, ◌/◌, ◌%◌, ◌^◌, ◌<◌, ◌≤◌, Bool, true, false, ◌&&◌, ltb, leb, ◌⊎◌, List, [], ◌∷◌, ◌++◌, length, get_or, refl, ap, ◌∙◌, inl, inr, ⊎_elim, append_assoc, append-nil, mod-eq_of_lt, arith, length-append, ltb-false, ltb-true, le-ltb, lt-ltb, le-leb, leb-true}
use mathlib.Core.Bool.{and-true, and_assoc, and-eq-true_iff}
use lib.ListN.{get_or-eq_default}
use Rattle.counts.specs.Count.{count_max, digits_max, digit, all_digits, numeral, digits, decimal, decimal_length}

-- the number of digits of n, at most f
unfoldable pub width : ℕ → ℕ → ℕ
width zero n = 0
width (suc f) n = let r = width f (n / 10) in if ltb n 10 then 1 else suc r

-- the w lowest digits of n, also zeros
unfoldable pub low_digits : ℕ → ℕ → List ℕ
low_digits zero n = []
low_digits (suc w) n = low_digits w (n / 10) ++ ((48 + n % 10) ∷ [])

-- n is one digit, or has digits before its last
one-digit : (n : ℕ) → (n < 10) ⊎ (10 ≤ n)
one-digit n = by (ltb n 10) refl
  where
    by : (t : Bool) → ltb n 10 ≡ t → (n < 10) ⊎ (10 ≤ n)
    by true e = inl (ltb-true n 10 e)
    by false e = inr (ltb-false n 10 e)

module _ (f n : ℕ) where
  pub width_one : n < 10 → width (suc f) n ≡ 1
  unfolding width
  width_one h = rw (lt-ltb n 10 h)

  pub width-more : 10 ≤ n → width (suc f) n ≡ suc (width f (n / 10))
  unfolding width
  width-more h = rw (le-ltb n 10 h)

pub length_low : (w n : ℕ) → length (low_digits w n) ≡ w
unfolding low_digits
length_low zero n = refl
length_low (suc w) n = length-append (low_digits w (n / 10)) _ ∙ omega (arith, length_low w (n / 10))

digits_low : (f n : ℕ) (v : List ℕ) → digits f n v ≡ low_digits (width f n) n ++ v
unfolding width low_digits
digits_low zero n v = refl
digits_low (suc f) n v =
    ⊎_elim (λ h. rw (lt-ltb n 10 h, mod-eq_of_lt h))
    (λ h. rw (le-ltb n 10 h, append_assoc) (digits_low f (n / 10) ((48 + n % 10) ∷ v))) (one-digit n)

all_snoc : (v : List ℕ) (b : ℕ) → all_digits (v ++ (b ∷ [])) ≡ all_digits v && digit b
all_snoc [] b = and-true (digit b)
all_snoc (a ∷ v) b = rw (all_snoc v b) (simp and_assoc)

all_low : (w n : ℕ) → all_digits (low_digits w n) ≡ true
unfolding low_digits
all_low zero n = refl
all_low (suc w) n =
    rw (all_snoc, all_low w (n / 10), le-leb 48 (48 + n % 10) (omega arith), le-leb (48 + n % 10) 57 (omega arith))

numeral_snoc : (a : ℕ) (v : List ℕ) (b : ℕ) → numeral a (v ++ (b ∷ [])) ≡ numeral a v * 10 + (b - 48)
numeral_snoc a [] b = refl
numeral_snoc a (d ∷ v) b = numeral_snoc (a * 10 + (d - 48)) v b

numeral_low : (w n : ℕ) → n < 10 ^ w → numeral 0 (low_digits w n) ≡ n
unfolding low_digits
numeral_low zero n h = omega arith
numeral_low (suc w) n h = rw (numeral_snoc, numeral_low w (n / 10) (omega arith)) (omega arith)

width_most : (f n : ℕ) → width f n ≤ f
unfolding width
width_most zero n = omega arith
width_most (suc f) n =
    ⊎_elim (λ h. rw (width_one f n h) (omega arith)) (λ h. rw (width-more f n h) (omega (arith, width_most f (n / 10)))) (one-digit n)

width_least : (f n : ℕ) → 1 ≤ width (suc f) n
width_least f n =
    ⊎_elim (λ h. rw (width_one f n h) (omega arith)) (λ h. rw (width-more f n h) (omega arith)) (one-digit n)

width_enough : (f n : ℕ) → n < 10 ^ f → n < 10 ^ width f n
unfolding width
width_enough zero n h = h
width_enough (suc f) n h =
    ⊎_elim (λ l. rw (width_one f n l) l) (λ l. rw (width-more f n l) (omega (arith, width_enough f (n / 10) (omega arith)))) (one-digit n)

first-digit : (f n : ℕ) (v : List ℕ) → 0 < n → n < 10 ^ f → 48 < get_or (digits f n v) 0 0
first-digit zero n v p h = omega arith
first-digit (suc f) n v p h =
    ⊎_elim (λ l. rw (lt-ltb n 10 l) (omega arith))
    (λ l. rw (le-ltb n 10 l) (first-digit f (n / 10) ((48 + n % 10) ∷ v) (omega arith) (omega arith))) (one-digit n)

digit_at : (v : List ℕ) (i : ℕ) → all_digits v ≡ true → i < length v → (48 ≤ get_or v i 0) × (get_or v i 0 ≤ 57)
digit_at [] i p h = absurd (omega arith)
digit_at (b ∷ v) zero p h =
    let q = (and-eq-true_iff (leb 48 b) (leb b 57)).0 ((and-eq-true_iff (digit b) (all_digits v)).0 p).0 in
    (leb-true 48 b q.0, leb-true b 57 q.1)
digit_at (b ∷ v) (suc i) p h = digit_at v i ((and-eq-true_iff (digit b) (all_digits v)).0 p).1 (omega arith)

pub digits-byte : (v : List ℕ) (i : ℕ) → all_digits v ≡ true → get_or v i 0 < 256
digits-byte v i p = by (ltb i (length v)) refl
  where
    by : (t : Bool) → ltb i (length v) ≡ t → get_or v i 0 < 256
    by true e = omega (arith, (digit_at v i p (ltb-true i (length v) e)).1)
    by false e = rw (get_or-eq_default v 0 (ltb-false i (length v) e)) (omega arith)

module _ (n : ℕ) where
  pub decimal-width : decimal_length n ≡ width digits_max n
  unfolding decimal_length
  decimal-width = ap length (digits_low digits_max n []) ∙ simp length-append (omega (arith, length_low (width digits_max n) n))

  pub decimal_low : decimal n ≡ low_digits (decimal_length n) n
  decimal_low = digits_low digits_max n [] ∙ rw (append-nil, decimal-width)

  -- 1 to 20 bytes, each a digit
  pub decimal_least : 1 ≤ length (decimal n)
  unfolding decimal_length
  decimal_least = omega (arith, decimal-width, width_least (digits_max - 1) n)

  pub decimal_most : length (decimal n) ≤ digits_max
  unfolding decimal_length
  decimal_most = omega (arith, decimal-width, width_most digits_max n)

  pub decimal-digits : all_digits (decimal n) ≡ true
  decimal-digits = ap all_digits decimal_low ∙ all_low (decimal_length n) n

  -- no leading zero: the first digit is a 0 of 0 alone
  pub decimal_leads : 0 < n → n ≤ count_max → 48 < get_or (decimal n) 0 0
  decimal_leads p h = first-digit digits_max n [] p (omega arith)

  -- what a count's digits say is the count
  pub decimal-numeral : n ≤ count_max → numeral 0 (decimal n) ≡ n
  decimal-numeral h =
      ap (numeral 0) decimal_low ∙ numeral_low (decimal_length n) n (rw decimal-width (width_enough digits_max n (omega arith)))
