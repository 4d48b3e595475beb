-- What GET comes to, case by case: each test of its list of refusals decided, in its order, then what the asker sees. A holder of a row
-- meets no test beyond the session's; anyone else meets the test of the numbers only where a lease would be given.
use Rattle.std.specs.Prelude.{if◌then◌else◌, Some, None}
use mathlib.Core.Path.{◌≡◌, refl, sym, ap, ◌∙◌}
use mathlib.Core.Bool.{Bool, true, false, not, ◌&&◌}
use mathlib.Core.List.{List, [], ◌∷◌}
use mathlib.Core.Option.{Option, none, some}
use Prim.Native.Nat.{ℕ, ◌+◌, ◌≤◌, ◌<◌}
use native.Mathlib.Numerals.{add-one}
use lib.Dec.{eqb, leb}
use lib.ListN.{length}
use borrow.Author.Tests.{le-leb, lt-leb}
use Rattle.lent.proofs.Choices.{zero_one}
use Rattle.machine.specs.Sizes.{key_count, row_count, number_max}
use Rattle.machine.specs.Tables.{first}
use Rattle.machine.specs.State.{State, free_row, row_place, row_of, row_at, cached}
use Rattle.machine.specs.Expiry.{with_keys, with_numbers, set_lease}
use Rattle.machine.specs.Refusals.{Sight as Seen, blocked, cached_sight, row_sight, sight, would_lease, not_live, refusals}
use Rattle.machine.specs.Effects.{Outcome, told, wait, leased, missed, looked as looked_at, effect}
use Rattle.machine.specs.Words.{ARG, NO-SESSION, NUMBERS}
use Rattle.machine.specs.declared.Answer.{Answer}
use Rattle.machine.specs.declared.Command.TheVariants.{Get}
use Rattle.machine.proofs.FirstRefusal
use Rattle.layout.specs.Holds.{Holds}
use Rattle.layout.specs.Search.{found}
use Rattle.outcome.specs.Outcome.{unless, tried, Gives}
use Rattle.sights.specs.Sights.{placed}
use Rattle.sights.proofs.Sights.{row_taken, row_missing, sight-by}
use Rattle.gets.specs.Got.{asked, absent, looked, others}

-- ---- an absent key, anyone else

module _ (s : State) (now k : ℕ) where
  pub absent-blocked : blocked s k ≡ true → absent s now k ≡ told (Answer.Backoff (wait s k now)) s
  unfolding absent
  absent-blocked e = rw e

  pub absent-refused : blocked s k ≡ false → number_max ≤ s.head.next_token → absent s now k ≡ told (Answer.Refused NUMBERS) s
  unfolding absent
  absent-refused e h = rw (e, le-leb number_max s.head.next_token h)

  pub absent-leased : blocked s k ≡ false → s.head.next_token < number_max → absent s now k ≡ leased s now k
  unfolding absent
  absent-leased e h = rw (e, lt-leb number_max s.head.next_token h)

  pub lease_gives : (token life : ℕ) → token ≡ s.head.next_token → life ≡ s.head.read_life → {b : List ℕ}
      → Holds b (with_numbers (with_keys s (set_lease s.keys k (some (record { token = token; until = now + life })))) s.head.next_session (token + 1))
      → Gives (leased s now k) (Answer.Lease token) b
  unfolding leased
  lease_gives token life e f h = record { answer = ap Answer.Lease e; holds = rw (add-one token, e, f) at h }

  pub others-hit : (at n : ℕ) {b : List ℕ} → Holds b s → placed (cached_sight k (cached s k)) ≡ Some (record { at = at; length = n }) → Gives (others s now k) (Answer.Hit at n) b
  unfolding others
  others-hit at n {b} h e = go (cached_sight k (cached s k)) e
    where
      go : (o : Option Seen) → placed o ≡ Some (record { at = at; length = n }) → Gives (looked s now k o) (Answer.Hit at n) b
      go none p = zero_one cc
      go (some x) p = record { answer = sym (ap asked p); holds = h }

  pub others-absent : placed (cached_sight k (cached s k)) ≡ None → others s now k ≡ absent s now k
  unfolding others
  others-absent e = go (cached_sight k (cached s k)) e
    where
      go : (o : Option Seen) → placed o ≡ None → looked s now k o ≡ absent s now k
      go none p = refl
      go (some x) p = zero_one cc

-- ---- GET

module _ (s : State) (now n k : ℕ) where
  pub got_key : key_count ≤ k → tried s now (Get n k) [] ≡ told (Answer.Refused ARG) s
  unfolding tried
  got_key h = rw (FirstRefusal.get_key s n k [] h)

  module _ (h : k < key_count) where
    pub got_unknown : (not (eqb n 0) && not_live s n) ≡ true → tried s now (Get n k) [] ≡ told (Answer.Refused NO-SESSION) s
    unfolding tried
    got_unknown e = rw (FirstRefusal.get_unknown s n k [] h e)

    module _ (e : (not (eqb n 0) && not_live s n) ≡ false) where
      -- a value is seen
      got_hit : (x : Seen) → sight s n k ≡ some x → tried s now (Get n k) [] ≡ record { answer = Answer.Hit x.at (length x.value); handed = x.value; after = s }
      unfolding tried refusals effect would_lease looked_at
      got_hit x p = rw (lt-leb key_count k h, e, p)

      got_ask : sight s n k ≡ none → free_row (row_of s n k) ≡ false → tried s now (Get n k) [] ≡ told Answer.Ask s
      unfolding tried refusals effect would_lease looked_at
      got_ask p f = rw (lt-leb key_count k h, e, p, f)

      -- the test of the numbers stands before the effect
      got_absent : sight s n k ≡ none → free_row (row_of s n k) ≡ true → tried s now (Get n k) [] ≡ absent s now k
      unfolding tried refusals effect would_lease looked_at missed absent
      got_absent p f = rw (lt-leb key_count k h, e, p, f) (go (blocked s k) (leb number_max s.head.next_token) (told (Answer.Backoff (wait s k now)) s) (leased s now k))
        where
          go : (t u : Bool) (x y : Outcome) → unless (first ((not t && u, NUMBERS) ∷ [])) s (if t then x else y) ≡ (if t then x else if u then told (Answer.Refused NUMBERS) s else y)
          go true u x y = refl
          go false true x y = refl
          go false false x y = refl

      -- a row of its own was found, or none
      pub got_held : {b : List ℕ} {i : ℕ} {r : Answer} → Holds b s → found row_count (row_place s n k) ≡ Some i → r ≡ asked (placed (row_sight i k (row_at s i) (cached s k))) → Gives (tried s now (Get n k) []) r b
      got_held {b} {i} {r} g f q = go (sight s n k) refl (q ∙ sym (ap (λ (o : Option Seen). asked (placed o)) (sight-by s n k g.fits.rows f)))
        where
          go : (o : Option Seen) → sight s n k ≡ o → r ≡ asked (placed o) → Gives (tried s now (Get n k) []) r b
          go none p q = rw (got_ask p (row_taken s n k i g.fits.rows f)) (record { answer = q; holds = g })
          go (some x) p q = rw (got_hit x p) (record { answer = q; holds = g })

      pub got_others : {b : List ℕ} → Holds b s → found row_count (row_place s n k) ≡ None → tried s now (Get n k) [] ≡ others s now k
      unfolding others
      got_others g f = go (cached_sight k (cached s k)) (sight-by s n k g.fits.rows f)
        where
          go : (o : Option Seen) → sight s n k ≡ o → tried s now (Get n k) [] ≡ looked s now k o
          go none p = got_absent p (rw (row_missing s n k g.fits.rows f))
          go (some x) p = got_hit x p
