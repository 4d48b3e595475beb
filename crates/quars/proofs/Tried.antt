-- What QUAR answers and leaves, case by case in the code's order: its arguments, its session, a row that it has, the decision table, a free row.
-- Each test of the definition's list is decided where the code decides it; ROOM, the last, only where a row would be taken.
use Rattle.machine.specs.declared.Refusal.{Refusal}
use Rattle.std.specs.Prelude.{if◌then◌else◌, Some, None, Ok, Err}
use mathlib.Core.Path.{◌≡◌, refl}
use mathlib.Core.Bool.{Bool, true, false, not, ◌&&◌}
use mathlib.Core.List.{[], ◌∷◌}
use mathlib.Core.Option.{none}
use Prim.Native.Nat.{ℕ, ◌≤◌, ◌<◌}
use lib.Dec.{eqb}
use lib.ListN.{length, set}
use borrow.Author.Tests.{lt-leb}
use Rattle.machine.specs.Sizes.{key_count, row_count}
use Rattle.machine.specs.Tables.{place, first}
use Rattle.machine.specs.Words.{is_kind, ARG, ROOM}
use Rattle.machine.specs.Decision.{grants}
use Rattle.machine.specs.State.{no_row, row, nothing, State, free_row, kind_of, row_of}
use Rattle.machine.specs.Expiry.{with_keys, with_rows, set_lease}
use Rattle.machine.specs.Refusals.{decide, rows_full, would_grant, refusals}
use Rattle.machine.specs.Effects.{told, asks, effect}
use Rattle.machine.specs.declared.Answer.{Answer}
use Rattle.machine.specs.declared.Command.TheVariants.{Quar}
use Rattle.machine.proofs.FirstRefusal
use Rattle.layout.specs.Search.{found}
use Rattle.layout.proofs.Search.{found-at, found_full, found_room}
use Rattle.outcome.specs.Outcome.{unless, tried}
use Rattle.askers.specs.Asker.{asker_of}
use Rattle.askers.specs.declared.Asker.{Asker}
use Rattle.askers.proofs.Asked.{first_asker}
use Rattle.quars.specs.Asking.{granted, grant, abort, ask, hold}

module _ (s : State) (n k kind : ℕ) where
  -- ---- a free row

  module _ (l : length s.rows ≡ row_count) where
    pub grant_full : found row_count (place free_row s.rows) ≡ None → grant s n k kind ≡ told (Answer.Refused ROOM) s
    grant_full f = rw (found_full free_row no_row s.rows row_count l f)

    pub grant_room : (i : ℕ) → found row_count (place free_row s.rows) ≡ Some i
        → grant s n k kind ≡ told Answer.Granted (with_keys (with_rows s (set s.rows i (row n k kind nothing))) (set_lease s.keys k none))
    grant_room i f = rw (found_room free_row no_row s.rows row_count i l f, (found-at row_count (place free_row s.rows) i f).0)

  -- ---- the decision table

  pub ask-by : {t : Bool} → grants (decide s k kind) ≡ t → ask s n k kind ≡ (if t then grant s n k kind else abort s n)
  unfolding ask
  ask-by e = rw e

  -- ---- what would be granted

  pub grants-by : {t : Bool} → eqb (kind_of (row_of s n k)) kind ≡ t → would_grant s n k kind ≡ not t && grants (decide s k kind)
  unfolding would_grant
  grants-by e = rw e

  -- ---- a row that it has

  pub hold-by : {t : Bool} → eqb (kind_of (row_of s n k)) kind ≡ t → hold s n k kind ≡ (if t then told Answer.Held s else ask s n k kind)
  unfolding hold
  hold-by e = rw e

  -- ---- its arguments and its session; 0 stands for the time, which QUAR does not look at

  pub quar_key : key_count ≤ k → tried s 0 (Quar n k kind) [] ≡ told (Answer.Refused ARG) s
  unfolding tried
  quar_key h = rw (FirstRefusal.quar_key s n k kind [] h)

  pub quar_kind : is_kind kind ≡ false → tried s 0 (Quar n k kind) [] ≡ told (Answer.Refused ARG) s
  unfolding tried
  quar_kind e = rw (FirstRefusal.quar_kind s n k kind [] e)

  module _ (a : k < key_count) (d : is_kind kind ≡ true) where
    pub quar_refused : (e : Refusal) → asker_of s n ≡ Err e → tried s 0 (Quar n k kind) [] ≡ told (Answer.Refused e) s
    unfolding tried refusals
    quar_refused e q = rw (lt-leb key_count k a, d, first_asker s n ((would_grant s n k kind && rows_full s, ROOM) ∷ []), q)

    pub quar_open : (x : Asker) → asker_of s n ≡ Ok x → tried s 0 (Quar n k kind) [] ≡ hold s n k kind
    unfolding tried refusals effect hold ask would_grant asks
    quar_open x q =
        rw (lt-leb key_count k a, d, first_asker s n ((would_grant s n k kind && rows_full s, ROOM) ∷ []), q)
        (go (eqb (kind_of (row_of s n k)) kind) (grants (decide s k kind)) (rows_full s))
      where
        go : (t u f : Bool)
            → unless (first ((not t && u && f, ROOM) ∷ [])) s (if t then told Answer.Held s else if u then granted s n k kind else abort s n)
            ≡ (if t then told Answer.Held s else if u then (if f then told (Answer.Refused ROOM) s else granted s n k kind) else abort s n)
        go true u f = refl
        go false true true = refl
        go false true false = refl
        go false false f = refl
