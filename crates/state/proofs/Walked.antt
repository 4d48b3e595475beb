-- A walk over a table that tests each record and notes its number: what is known after k records, as it starts and after a turn.
use mathlib.Core.Path.{◌≡◌}
use mathlib.Core.Bool.{Bool, true}
use Prim.Native.Nat.{ℕ, ◌+◌, ◌≤◌, ◌<◌}
use native.Mathlib.Omega.{arith}
use Rattle.lent.specs.Tables.{every}
use Rattle.lent.proofs.Choices.{test_passed}
use Rattle.lent.proofs.Walks.{every-none, every_more}
use Rattle.machine.specs.Sound.{distinct}
use Rattle.order.proofs.Numbers.{distinct_none}

-- of n records the first k are formed and noted, and if the notes tell them apart their numbers are distinct
pub record Walked (n : ℕ) (formed : ℕ → Bool) (number : ℕ → ℕ) (Noted : ℕ → Type 0) (Apart : Type 0) (k : ℕ) : Type 0 where
  pub inside : k ≤ n
  pub each : every formed k ≡ true
  pub noted : Noted k
  pub apart : Apart → distinct number k ≡ true

module _ {n : ℕ} {formed : ℕ → Bool} {number : ℕ → ℕ} {N : ℕ → Type 0} {A : Type 0} where
  pub walked_none : N 0 → Walked n formed number N A 0
  walked_none e = record { inside = omega arith; each = every-none formed; noted = e; apart = λ a. distinct_none number }

  -- r is what the test of record k came to
  pub walked_more : {k : ℕ} {r : Bool} {M : ℕ → Type 0} {B : Type 0} → Walked n formed number N A k → k < n → r ≡ formed k → r ≡ true → M (k + 1) → ((A → distinct number k ≡ true) → B → distinct number (k + 1) ≡ true) → Walked n formed number M B (k + 1)
  walked_more {k} w l e t m d = record { inside = omega arith; each = every_more formed k w.each (test_passed e t); noted = m; apart = d w.apart }

  pub walked_all : {k : ℕ} → Walked n formed number N A k → n ≤ k → Walked n formed number N A n
  walked_all {k} w l = let e : k ≡ n = omega arith in rw e at w
