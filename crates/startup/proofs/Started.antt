-- What START answers, and the bytes after it, case by case: each test of the definition's list decided, in its order.
use Rattle.machine.specs.declared.Refusal.{Refusal}
use mathlib.Core.Path.{◌≡◌}
use mathlib.Core.Bool.{true, false, or-true}
use mathlib.Core.List.{List}
use Prim.Native.Nat.{ℕ, ◌<◌, ◌^◌}
use native.Mathlib.Omega.{arith}
use lib.ListN.{length}
use borrow.Author.Tests.{eq-eqb, ne_eqb}
use Rattle.machine.specs.Sizes.{state_size, life_max}
use Rattle.machine.specs.State.{fresh}
use Rattle.machine.specs.Sound.{lifetime}
use Rattle.machine.specs.Step.{start}
use Rattle.machine.specs.Words.{STATE, ARG}
use Rattle.machine.specs.declared.Answer.{Answer}
use Rattle.machine.proofs.Ranges.{within_means}
use Rattle.layout.specs.Layout.{encode}
use Rattle.startup.specs.Start.{Reply, start_refusal, start_of}

abbrev refused : Refusal → List ℕ → Reply
refused n b = record { answer = Answer.Refused n; bytes = b }

pub lifetime_small : (n : ℕ) → lifetime n ≡ true → n < 2 ^ 32
lifetime_small n e = omega (arith, (within_means 1 life_max n e).1)

-- READY says that the length and the lifetimes were right
pub record Started (b : List ℕ) (read_life write_life : ℕ) : Type 0 where
  pub size : length b ≡ state_size
  pub read : lifetime read_life ≡ true
  pub write : lifetime write_life ≡ true

module _ (b : List ℕ) (read_life write_life : ℕ) where
  pub started_size : (length b ≡ state_size → ⊥) → start_of b read_life write_life ≡ refused STATE b
  unfolding start_of start_refusal
  started_size n = rw (ne_eqb (length b) state_size n)

  pub started_read : length b ≡ state_size → lifetime read_life ≡ false → start_of b read_life write_life ≡ refused ARG b
  unfolding start_of start_refusal
  started_read e p = rw (eq-eqb (length b) state_size e, p)

  pub started_write : length b ≡ state_size → lifetime write_life ≡ false → start_of b read_life write_life ≡ refused ARG b
  unfolding start_of start_refusal
  started_write e p = rw (eq-eqb (length b) state_size e, p, or-true)

  pub started-ready : length b ≡ state_size → lifetime read_life ≡ true → lifetime write_life ≡ true
      → start_of b read_life write_life ≡ record { answer = Answer.Ready; bytes = encode (fresh read_life write_life) }
  unfolding start_of start_refusal start
  started-ready e p q = rw (eq-eqb (length b) state_size e, p, q)
