-- Rule 2: the session that a search found is the one that the definitions look up; its life and its row on the key decide, and its
-- place is where it is marked. What is said of the line is that, and the register's note.
use Rattle.std.specs.Prelude.{if◌then◌else◌, Option, Some, None}
use Prim.Native.Nat.{ℕ}
use mathlib.Core.Path.{◌≡◌, refl, sym, ap, ◌∙◌}
use mathlib.Core.Bool.{true, false, not}
use mathlib.Core.List.{List}
use native.Mathlib.Omega.{arith}
use lib.Dec.{ltb}
use lib.ListN.{length}
use borrow.Author.Tests.{le-ltb, lt-ltb}
use Rattle.machine.specs.Sizes.{session_count, row_count}
use Rattle.machine.specs.Session.{is_sealed}
use Rattle.machine.specs.State.{Value, State, free_row, session_place, row_place, row_of}
use Rattle.machine.specs.Sound.{sound}
use Rattle.machine.specs.Refusals.{sealed_in}
use Rattle.machine.specs.declared.Session.{Session}
use Rattle.layout.specs.Layout.{decode}
use Rattle.layout.specs.WellFormed.{well_formed}
use Rattle.layout.specs.Holds.{Holds}
use Rattle.layout.specs.Search.{found}
use Rattle.layout.proofs.Formed.{formed, holds_decoded}
use Rattle.layout.proofs.Search.{found-at, found_nothing}
use Rattle.turns.proofs.Tried.{Located, unlocated}
use Rattle.sights.proofs.Sights.{row_missing, row_taken}
use Rattle.book.specs.Book.{with_registered, with_mark}
use Rattle.replies.specs.Replies.{WRITTEN}
use Rattle.rules.specs.Says.{Says}
use Rattle.rules.proofs.Told.{says_unless_hit}
use Rattle.writes.specs.Writes.{may_write, marked, writes, Writes}

-- ---- rule 2, of the session at place i, with its record as it was loaded

-- by what the search for its row found
abbrev pub rule_by : Option ℕ → ℕ
rule_by (Some j) = 0
rule_by None = 2

module _ {s : State} {n i : ℕ} {x : Session} (w : Located s n i x) (k : ℕ) (b : List ℕ) {b' : List ℕ} (f : b' ≡ with_mark b i x.number) where
  sealed_loaded : sealed_in s n ≡ is_sealed x
  sealed_loaded = rw w.of

  noted_here : b' ≡ with_mark b i n
  noted_here = f ∙ ap (with_mark b i) w.number

  pub written_open : is_sealed x ≡ false → Writes s b n k i 2 b'
  written_open q = record { rule = rw (sealed_loaded ∙ q); book = noted_here }

  pub written-by : length s.rows ≡ row_count → is_sealed x ≡ true → {r : Option ℕ} → found row_count (row_place s x.number k) ≡ r → Writes s b n k i (rule_by r) b'
  written-by l q g = record { rule = rw (sealed_loaded ∙ q) (go _ (rw w.number at g)); book = noted_here }
    where
      go : (r : Option ℕ) → found row_count (row_place s n k) ≡ r → rule_by r ≡ (if not (free_row (row_of s n k)) then 0 else 2)
      go (Some j) e = rw (row_taken s n k j l e)
      go None e = rw (row_missing s n k l e)

-- ---- on the cache's bytes

module _ (x b : List ℕ) (n k : ℕ) where
  abbrev NotedRule : ℕ → List ℕ → Type 0
  NotedRule r b' = (r ≡ (if may_write x n k then 0 else 2)) × (b' ≡ marked x b n)

  pub written_damaged : well_formed x ≡ false → NotedRule 2 b
  unfolding may_write marked
  written_damaged e = rw e (refl, refl)

  pub written_nobody : well_formed x ≡ true → found session_count (session_place (decode x) n) ≡ None → NotedRule 2 b
  unfolding may_write marked
  written_nobody e f =
      let z = unlocated (decode x) n (formed x e).sound f in
      rw (e, z, le-ltb (session_place (decode x) n) session_count (found_nothing session_count (session_place (decode x) n) f)) (refl, refl)

  pub written_at : well_formed x ≡ true → (i r : ℕ) (b' : List ℕ) → found session_count (session_place (decode x) n) ≡ Some i
      → ((s : State) → Holds x s → sound s ≡ true → (m : ℕ) → session_place s m ≡ i → Writes s b m k i r b') → NotedRule r b'
  unfolding may_write marked
  written_at e i r b' f w =
      let q = found-at session_count (session_place (decode x) n) i f in
      let u = w (decode x) (holds_decoded x e) (formed x e).sound n q.0 in
      let g : ltb (session_place (decode x) n) session_count ≡ true = rw q.0 (lt-ltb i session_count q.1) in
      (rw e u.rule, rw (e, g) (u.book ∙ ap (λ (j : ℕ). with_mark b j n) (sym q.0)))

-- ---- what is said of it

pub write_says : (x b : List ℕ) (n k : ℕ) (v : Value) (rule : ℕ) (b₁ b' : List ℕ) → rule ≡ (if may_write x n k then 0 else 2) → b₁ ≡ marked x b n → b' ≡ with_registered b₁ k v
    → Says (writes x b n k v) 0 (record { word = WRITTEN; detail = 0; at = 0; rule = rule }) x b'
unfolding writes
write_says x b n k v rule b₁ b' e f g = rw (e, g, f) (says_unless_hit (writes x b n k v) 0 (λ w. omega arith))
