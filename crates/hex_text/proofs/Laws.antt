-- What callers cite of a text that is read: what it says are bytes, since two digits say less than 16 * 16.
use mathlib.Core.Path.{◌≡◌}
use mathlib.Core.Logic.{⊎_elim}
use mathlib.Core.Bool.{true}
use mathlib.Core.List.{List, [], ◌∷◌}
use mathlib.Core.Option.{Option, none, some}
use Prim.Native.Nat.{ℕ, zero, suc}
use native.Mathlib.Omega.{arith}
use lib.Dec.{ltb}
use borrow.Author.Tests.{ltb-true}
use Rattle.lent.specs.Bytes.{Bytes}
use Rattle.lent.proofs.Choices.{case_of, and_yes}
use Rattle.hex_text.specs.Hex.{digit_value, all_digits, is_dash, is_hex, bytes_of, read_hex, value_read}
use Rattle.hex_text.proofs.Reading.{hex_digits, read_dash, read_pairs, read_none}

bytes_of_lem : (t : List ℕ) → all_digits t ≡ true → Bytes (bytes_of t)
bytes_of_lem [] e i = omega arith
bytes_of_lem (h ∷ []) e i = omega arith
bytes_of_lem (h ∷ l ∷ t) e zero =
    let p = and_yes (ltb (digit_value h) 16) (all_digits (l ∷ t)) e in
    let q = and_yes (ltb (digit_value l) 16) (all_digits t) p.1 in
    omega (arith, ltb-true (digit_value h) 16 p.0, ltb-true (digit_value l) 16 q.0)
bytes_of_lem (h ∷ l ∷ t) e (suc i) =
    bytes_of_lem t (and_yes (ltb (digit_value l) 16) (all_digits t) (and_yes (ltb (digit_value h) 16) (all_digits (l ∷ t)) e).1).1 i

-- a text by what it is
by_text : (P : Option (List ℕ) → Type 0) (t : List ℕ) → P none → P (some []) → (is_hex t ≡ true → P (some (bytes_of t))) → P (read_hex t)
by_text P t u v w =
    ⊎_elim (λ e. rw (read_dash t e) v)
    (λ e. ⊎_elim (λ f. rw (read_pairs t e f) (w f)) (λ f. rw (read_none t e f) u) (case_of (is_hex t)))
    (case_of (is_dash t))

module _ (t : List ℕ) where
  value_read_bytes : Bytes (value_read (read_hex t))
  value_read_bytes = by_text (λ o. Bytes (value_read o)) t (λ i. omega arith) (λ i. omega arith) (λ e. bytes_of_lem t (hex_digits t e))

module _ (t v : List ℕ) (e : read_hex t ≡ some v) where
  pub read_bytes : Bytes v
  read_bytes = rw e at (value_read_bytes t)
