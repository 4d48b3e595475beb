-- Any number behind the last word is as that, and no word is longer than the longest, which is computed over all of them.
use mathlib.Core.Path.{◌≡◌, refl, sym}
use mathlib.Core.Bool.{Bool, true, false}
use Prim.Native.Nat.{ℕ, ◌≤◌, ◌<◌}
use native.Mathlib.Omega.{arith}
use lib.Dec.{leb, ltb}
use lib.ListN.{length, get_or-eq_default}
use borrow.Author.Tests.{leb-true, ltb-true, ltb-false}
use Rattle.lent.specs.Tables.{every}
use Rattle.lent.proofs.Walks.{every-all}
use Rattle.replies.specs.Replies.{UNREADABLE, word_count, word_max, words, name_of}
use Rattle.replies.specs.Text.{ascii}

-- a number behind the list is UNREADABLE's
pub name_other : (word : ℕ) → word_count ≤ word → name_of UNREADABLE ≡ name_of word
unfolding name_of words
name_other word h = sym (get_or-eq_default words _ h)

-- so is the last of them
pub name_rest : (word : ℕ) → UNREADABLE ≤ word → name_of word ≡ ascii "UNREADABLE"
unfolding name_of words
name_rest word h = by (ltb word word_count) refl
  where
    by : (t : Bool) → ltb word word_count ≡ t → name_of word ≡ ascii "UNREADABLE"
    by true e = let i : word ≡ UNREADABLE = omega (arith, ltb-true word word_count e) in rw i
    by false e = sym (name_other word (ltb-false word word_count e))

short_each : every (λ i. leb (length (name_of i)) word_max) word_count ≡ true
unfolding every words name_of
short_each = refl

short_at : (word : ℕ) → word < word_count → length (name_of word) ≤ word_max
short_at word h = leb-true (length (name_of word)) word_max (every-all (λ i. leb (length (name_of i)) word_max) word_count word short_each h)

pub name_most : (word : ℕ) → length (name_of word) ≤ word_max
name_most word = by (ltb word word_count) refl
  where
    by : (t : Bool) → ltb word word_count ≡ t → length (name_of word) ≤ word_max
    by true e = short_at word (ltb-true word word_count e)
    by false e = rw (← name_other word (ltb-false word word_count e)) (short_at UNREADABLE (omega arith))
