-- The bits of keys and session places: a bit is one of the key's two words, by the place, and setting one or all of a key's changes no other key's.
use mathlib.Core.Path.{◌≡◌, refl, sym, ap, ◌∙◌}
use mathlib.Core.Bool.{Bool, true, false, ◌&&◌, ◌||◌, and-false, or-true}
use mathlib.Core.Logic.{◌⊎◌, ⊎_elim, inl, inr}
use mathlib.Core.List.{List}
use Prim.Native.Nat.{ℕ, ◌+◌, ◌*◌, ◌/◌, ◌%◌, ◌<◌}
use native.Mathlib.Omega.{arith}
use lib.ListN.{length, set, replicate, length-set}
use lib.Seq.{get_or-set_same, get_or-set_other}
use lib.Dec.{eqb}
use borrow.Author.Tests.{eq-eqb, ne_eqb, eqb-true}
use Rattle.joins.specs.Bits.{word_bits, has_bit}
use Rattle.lent.specs.Tables.{every}
use Rattle.lent.proofs.Choices.{and_yes, or_yes, clash}
use Rattle.lent.proofs.Walks.{every-all}
use Rattle.joins.proofs.Bits.{bit_none}
use Rattle.joins.proofs.Marks.{set_bit_lem}
use Rattle.machine.proofs.Views.{get_or-same}
use Rattle.machine.specs.Sizes.{key_count, session_count}
use Rattle.order.specs.Order.{item}
use Rattle.joins.specs.Joins.{key_words, holder_words, holds, with_holder, all_bits, Taken}
use Rattle.order.proofs.Numbers.{same_or}

-- on key k the bits are set of the places of which Q is so, and nothing else changes
pub record Grown (words : List ℕ) (k : ℕ) (Q : ℕ → Type 0) (words' : List ℕ) : Type 0 where
  pub wide : length words' ≡ holder_words
  pub own : (q : ℕ) → q < session_count → Q q → holds words' k q ≡ true
  pub kept : (a v : ℕ) → v < session_count → holds words a v ≡ true → holds words' a v ≡ true
  pub back : (a v : ℕ) → v < session_count → holds words' a v ≡ true → ((a ≡ k) × Q v) ⊎ (holds words a v ≡ true)
  pub word_back : (a h : ℕ) → h < key_words → (item words' (a * key_words + h) ≡ 0 → ⊥) → (a ≡ k) ⊎ (item words (a * key_words + h) ≡ 0 → ⊥)

module _ (words : List ℕ) (wide : length words ≡ holder_words) (k : ℕ) (l : k < key_count) where
  -- ---- one bit

  module _ (q : ℕ) (low : q < session_count) where
    -- bits of other words or at other places of a word
    bits_apart : (a v : ℕ) → (a * key_words + v / word_bits ≡ k * key_words + q / word_bits → v % word_bits ≡ q % word_bits → ⊥) → (eqb (a * key_words + v / word_bits) (k * key_words + q / word_bits) && eqb (v % word_bits) (q % word_bits)) ≡ false
    bits_apart a v f =
        ⊎_elim
        (λ x. rw (ne_eqb (v % word_bits) (q % word_bits) (f x)) (and-false (eqb (a * key_words + v / word_bits) (k * key_words + q / word_bits))))
        (λ x. rw (ne_eqb (a * key_words + v / word_bits) (k * key_words + q / word_bits) x))
        (same_or (a * key_words + v / word_bits) (k * key_words + q / word_bits))

    -- two bits are one if they are of one key and place
    bit_same : (a v : ℕ) → v < session_count → (eqb (a * key_words + v / word_bits) (k * key_words + q / word_bits) && eqb (v % word_bits) (q % word_bits)) ≡ eqb a k && eqb v q
    bit_same a v b =
        ⊎_elim
        (λ e. ⊎_elim
        (λ o. one a v e o)
        (λ o. rw (ne_eqb v q o, and-false (eqb a k)) (bits_apart a v (λ x y. o (omega (arith, e, x, y)))))
        (same_or v q))
        (λ e. rw (ne_eqb a k e) (bits_apart a v (λ x y. e (omega (arith, x, y)))))
        (same_or a k)
      where
        one : (a v : ℕ) → a ≡ k → v ≡ q → (eqb (a * key_words + v / word_bits) (k * key_words + q / word_bits) && eqb (v % word_bits) (q % word_bits)) ≡ eqb a k && eqb v q
        one a v e o = rw (eq-eqb a k e, eq-eqb v q o, eq-eqb (a * key_words + v / word_bits) (k * key_words + q / word_bits) (omega arith), eq-eqb (v % word_bits) (q % word_bits) (omega arith))

    with_bit_lem : (a v : ℕ) → v < session_count → holds (with_holder words k q) a v ≡ (holds words a v || (eqb a k && eqb v q))
    with_bit_lem a v b =
        set_bit_lem words (k * key_words + q / word_bits) (q % word_bits) (omega (arith, wide)) (a * key_words + v / word_bits) (v % word_bits)
        ∙ ap (λ (x : Bool). holds words a v || x) (bit_same a v b)

    pub grown_one : {Q : ℕ → Type 0} {words' : List ℕ} → words' ≡ with_holder words k q → ((v : ℕ) → Q v → v ≡ q) → Q q → Grown words k Q words'
    grown_one {Q} e only at = rw e (record {
      wide = length-set words (k * key_words + q / word_bits) _ ∙ wide;
      own = λ v b y. rw (only v y) (with_bit_lem k q low ∙ rw (eq-eqb k k refl, eq-eqb q q refl) (or-true (holds words k q)));
      kept = λ a v b y. with_bit_lem a v b ∙ rw y;
      back = λ a v b y. ⊎_elim
          inr
          (λ z. let t = and_yes (eqb a k) (eqb v q) z in inl (eqb-true a k t.0, rw (eqb-true v q t.1) at))
          (or_yes (holds words a v) (eqb a k && eqb v q) (sym (with_bit_lem a v b) ∙ y));
      word_back = λ a h b y. ⊎_elim
          (λ z. inl (omega arith))
          (λ z. inr (λ o. y (get_or-set_other words (k * key_words + q / word_bits) (a * key_words + h) _ 0 z ∙ o)))
          (same_or (a * key_words + h) (k * key_words + q / word_bits));
    })

  -- ---- all bits

  abbrev filled : List ℕ
  filled = set (set words (k * key_words) all_bits) (k * key_words + 1) all_bits

  filled-long : length (set words (k * key_words) all_bits) ≡ holder_words
  filled-long = length-set words (k * key_words) all_bits ∙ wide

  filled_own : (h : ℕ) → h < key_words → item filled (k * key_words + h) ≡ all_bits
  filled_own h b =
      ⊎_elim
      (λ e. rw e (get_or-set_same (set words (k * key_words) all_bits) (k * key_words + 1) all_bits 0 (omega (arith, filled-long))))
      (λ e. let o : k * key_words + h ≡ k * key_words = omega arith in
      get_or-set_other (set words (k * key_words) all_bits) (k * key_words + 1) (k * key_words + h) all_bits 0 (λ z. e (omega arith))
      ∙ rw o (get_or-set_same words (k * key_words) all_bits 0 (omega (arith, wide))))
      (same_or h 1)

  filled_other : (a h : ℕ) → h < key_words → (a ≡ k → ⊥) → item filled (a * key_words + h) ≡ item words (a * key_words + h)
  filled_other a h b e =
      get_or-set_other (set words (k * key_words) all_bits) (k * key_words + 1) (a * key_words + h) all_bits 0 (λ z. e (omega arith))
      ∙ get_or-set_other words (k * key_words) (a * key_words + h) all_bits 0 (λ z. e (omega arith))

  all_bits_lem : (b : ℕ) → b < word_bits → has_bit all_bits b ≡ true
  unfolding every
  all_bits_lem b h = every-all (has_bit all_bits) word_bits b refl h

  pub grown_all : {Q : ℕ → Type 0} {words' : List ℕ} → words' ≡ filled → ((v : ℕ) → Q v) → Grown words k Q words'
  grown_all {Q} e any = rw e (record {
    wide = length-set (set words (k * key_words) all_bits) (k * key_words + 1) all_bits ∙ filled-long;
    own = λ v b y. own v b;
    kept = λ a v b y. ⊎_elim (λ z. rw z (own v b)) (λ z. rw (filled_other a (v / word_bits) (omega arith) z) y) (same_or a k);
    back = λ a v b y. ⊎_elim (λ z. inl (z, any v)) (λ z. inr (rw (filled_other a (v / word_bits) (omega arith) z) at y)) (same_or a k);
    word_back = λ a h b y. ⊎_elim inl (λ z. inr (λ o. y (filled_other a h b z ∙ o))) (same_or a k);
  })
    where
      own : (v : ℕ) → v < session_count → holds filled k v ≡ true
      own v b = rw (filled_own (v / word_bits) (omega arith)) (all_bits_lem (v % word_bits) (omega arith))

-- ---- a key with a bit, and one without

pub taken_held : {words : List ℕ} {k x : ℕ} (h : ℕ) → h < key_words → x ≡ k * key_words + h → (item words x ≡ 0 → ⊥) → Taken words k false words
taken_held {words} h l o e = record { free = λ t. clash false t refl; held = λ t. (h, l, λ z. e (ap (item words) o ∙ z)); then_all = λ t. clash false t refl; else_same = λ t. refl }

pub taken_free : {words words' : List ℕ} {k : ℕ} → item words (k * key_words) ≡ 0 → item words (k * key_words + 1) ≡ 0 → words' ≡ set (set words (k * key_words) all_bits) (k * key_words + 1) all_bits → Taken words k true words'
taken_free {words} {words'} {k} e o t = record {
  free = λ u h l. ⊎_elim (λ z. rw z o) (λ z. let w : k * key_words + h ≡ k * key_words = omega arith in rw w e) (same_or h 1);
  held = λ u. clash true refl u;
  then_all = λ u. t;
  else_same = λ u. clash true refl u;
}

pub no_bit : (words : List ℕ) (k q : ℕ) → item words (k * key_words + q / word_bits) ≡ 0 → holds words k q ≡ false
no_bit words k q e = rw e (bit_none (q % word_bits))

pub no_word : (x : ℕ) → item (replicate holder_words 0) x ≡ 0
no_word x = get_or-same {A = ℕ} holder_words x 0
