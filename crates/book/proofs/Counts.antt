-- A line is counted by one store, or by two of which the second reads its count after the first.
use Rattle.std.proofs.Common.{◌≡◌, ℕ, ◌+◌, ◌%◌, ◌^◌, List, eq-eqb, ne_eqb}
use Rattle.lent.specs.Bytes.{bytes64, splice}
use Rattle.book.specs.Book.{lines_at, broken_at, lines_in, broken_in, counted}

module _ (b s : List ℕ) (rule n l : ℕ) (e : l ≡ lines_in b) (f : n ≡ (l + 1) % 2 ^ 64) (g : s ≡ splice b lines_at (bytes64 n)) where
  pub counted_kept : rule ≡ 0 → s ≡ counted b rule
  unfolding counted
  counted_kept h = rw (eq-eqb rule 0 h, ← e, ← f, ← g)

  pub counted-broken : (t : List ℕ) (m k : ℕ) → k ≡ broken_in s → m ≡ (k + 1) % 2 ^ 64 → t ≡ splice s broken_at (bytes64 m) → (rule ≡ 0 → ⊥) → t ≡ counted b rule
  unfolding counted
  counted-broken t m k p q r h = rw (ne_eqb rule 0 h, ← e, ← f, ← g, ← p, ← q) r
