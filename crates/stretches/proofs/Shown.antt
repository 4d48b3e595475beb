-- What SHOW comes to, case by case, and that the value which is seen stands at its place in the bytes: a cached value in its key's record, a
-- staged one in its row's.
use mathlib.Core.Path.{◌≡◌, refl, ap}
use mathlib.Core.Bool.{Bool, true, false, not, ◌&&◌}
use mathlib.Core.List.{List, []}
use Rattle.std.specs.Prelude.{Option as Found, Some, None}
use mathlib.Core.Option.{Option, none, some}
use Prim.Native.Nat.{ℕ, ◌≤◌, ◌<◌}
use lib.Dec.{eqb, leb}
use lib.ListN.{length}
use borrow.Author.Tests.{le-leb, lt-leb, leb-true, leb-false}
use Rattle.lent.specs.Bytes.{win}
use Rattle.lent.proofs.Splice.{win-none}
use Rattle.machine.specs.Sizes.{key_count}
use Rattle.machine.specs.State.{Value, staged, State, staged_in}
use Rattle.machine.specs.Refusals.{Sight as Seen, sight, not_live}
use Rattle.machine.specs.Step.{Shown, seen, show}
use Rattle.machine.specs.Words.{ARG, NO-SESSION}
use Rattle.machine.specs.declared.Answer.{Answer}
use Rattle.machine.proofs.Sights.{sight_ind}
use Rattle.machine.proofs.SoundMeans.{row_inside}
use Rattle.layout.specs.Holds.{Holds}
use Rattle.layout.proofs.Held.{value_stands, staged_stands}
use Rattle.sights.specs.Sights.{placed}
use Rattle.sights.specs.declared.Span.{Span}
use Rattle.stretches.specs.Stretch.{span_of}

-- ---- where the value stands

-- a value stands at a place of the bytes
abbrev pub Stands : List ℕ → ℕ → Value → Type 0
Stands b at v = win b at (length v) ≡ v

sight_stands : {b : List ℕ} {s : State} → Holds b s → (k : ℕ) → k < key_count → (n : ℕ) (x : Seen) → sight s n k ≡ some x → Stands b x.at x.value
sight_stands {b} {s} h k l = sight_ind (λ (x : Seen). Stands b x.at x.value) s k (value_stands h k l)
    (λ i n j d v q. staged_stands h i (row_inside s i n j d (staged v) h.fits.rows q) v (ap staged_in q))

-- ---- SHOW

-- nothing is handed back: the empty stretch at the first byte
abbrev pub bare : Answer → Shown
bare a = record { answer = a; at = 0; value = [] }

-- what is answered and handed back where d is seen
abbrev pub answer_to : Found Span → Answer
answer_to (Some x) = Answer.Value x.length
answer_to None = Answer.None

abbrev pub span_to : Found Span → Span
span_to (Some x) = x
span_to None = record { at = 0; length = 0 }

pub record Shows (x : Shown) (d : Found Span) : Type 0 where
  pub answer : answer_to d ≡ x.answer
  pub span : span_to d ≡ span_of x

module _ (s : State) (n k : ℕ) where
  pub shown_key : key_count ≤ k → show s n k ≡ bare (Answer.Refused ARG)
  unfolding show
  shown_key h = rw (le-leb key_count k h)

  module _ (l : k < key_count) where
    pub shown_unknown : (not (eqb n 0) && not_live s n) ≡ true → show s n k ≡ bare (Answer.Refused NO-SESSION)
    unfolding show
    shown_unknown e = rw (lt-leb key_count k l, e)

    module _ (e : (not (eqb n 0) && not_live s n) ≡ false) where
      shown_seen : show s n k ≡ seen (sight s n k)
      unfolding show
      shown_seen = rw (lt-leb key_count k l, e)

      pub shown_by : {d : Found Span} → placed (sight s n k) ≡ d → Shows (show s n k) d
      shown_by p = rw (shown_seen, ← p) (go (sight s n k))
        where
          go : (o : Option Seen) → Shows (seen o) (placed o)
          go none = record { answer = refl; span = refl }
          go (some x) = record { answer = refl; span = refl }

  -- what is handed back stands in the lent bytes, at its place
  pub shown_stands : {b : List ℕ} → Holds b s → Stands b (show s n k).at (show s n k).value
  shown_stands {b} h = key (leb key_count k) refl
    where
      sees : k < key_count → (o : Option Seen) → sight s n k ≡ o → Stands b (seen o).at (seen o).value
      sees l none q = win-none b 0
      sees l (some x) q = sight_stands h k l n x q

      knows : k < key_count → (t : Bool) → (not (eqb n 0) && not_live s n) ≡ t → Stands b (show s n k).at (show s n k).value
      knows l true e = rw (shown_unknown l e) (win-none b 0)
      knows l false e = rw (shown_seen l e) (sees l (sight s n k) refl)

      key : (t : Bool) → leb key_count k ≡ t → Stands b (show s n k).at (show s n k).value
      key true e = rw (shown_key (leb-true key_count k e)) (win-none b 0)
      key false e = knows (leb-false key_count k e) (not (eqb n 0) && not_live s n) refl
