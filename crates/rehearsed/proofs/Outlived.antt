-- What expiry leaves of a session that is live after it: it was not due, so it was live before, and its rows stand. So what a command's rule reads of
-- it before expiry is what the machine reads after.
use Rattle.machine.specs.declared.Refusal.{Refusal}
use mathlib.Core.Path.{◌≡◌, refl, sym, ap, ◌∙◌}
use mathlib.Core.Bool.{true, false, not, ◌&&◌}
use mathlib.Core.Logic.{◌⊎◌, inl, inr}
use mathlib.Core.List.{List, ◌∷◌}
use mathlib.Core.Option.{Option, none, some}
use Prim.Native.Nat.{ℕ}
use borrow.Author.Tests.{eqb-true}
use lib.Dec.{eqb}
use lib.ListN.{get_or}
use Rattle.lent.specs.Tables.{same}
use Rattle.lent.proofs.Choices.{case_of, clash, if_ind}
use Rattle.machine.specs.Tables.{any, mem}
use Rattle.machine.specs.Words.{word_of, STATE, DONE, UNDONE}
use Rattle.machine.specs.Session.{is_due}
use Rattle.machine.specs.State.{Value, nothing, staged, DROP, Row, no_row, row, State, session_place}
use Rattle.machine.specs.Expiry.{free_if_of, leave, finish, those, expire}
use Rattle.machine.specs.Refusals.{not_live, clock_refusal, refusals, refusal}
use Rattle.machine.specs.Effects.{effect}
use Rattle.machine.specs.Step.{settled, step}
use Rattle.machine.specs.Test.{differs}
use Rattle.machine.specs.declared.Command.{Command}
use Rattle.machine.specs.declared.Command.TheVariants.{Done, Undo}
use Rattle.machine.proofs.Views.{any_mapped, any_same}
use Rattle.machine.proofs.OrderlyKept.{was_session}
use Rattle.machine.proofs.Accepted.{passed, session_of_lem, found_live}
use Rattle.words.specs.Numbers.{REFUSED}
use Rattle.rehearsed.proofs.Moves.{expire_session}

-- A word that is not REFUSED is that of no refusal

module _ (s : State) (now : ℕ) (c : Command) (v : Value) (word : ℕ) (some_word : eqb REFUSED word ≡ false) where
  -- so each test of the command's list was false
  accepted_passed : eqb (word_of (step s now c v).answer) word ≡ true → (i : ℕ) → (get_or (clock_refusal (expire now s) now ∷ refusals (expire now s) c v) i (false, STATE)).0 ≡ false
  unfolding step settled
  accepted_passed p = passed (expire now s) now c v (go (refusal (expire now s) now c v) p)
    where
      go : (o : Option Refusal) → eqb (word_of (settled s now o (effect (expire now s) now c v)).answer) word ≡ true → o ≡ none
      go none p = refl
      go (some e) p = clash (eqb REFUSED word) p some_word

module _ (s : State) (now n : ℕ) (v : Value) where
  -- DONE and UNDO are accepted of a session that is live after expiry
  pub done_live : eqb (word_of (step s now (Done n) v).answer) DONE ≡ true → not_live (expire now s) n ≡ false
  unfolding refusals
  done_live p = accepted_passed s now (Done n) v DONE refl p 1

  pub undone_live : eqb (word_of (step s now (Undo n) v).answer) UNDONE ≡ true → not_live (expire now s) n ≡ false
  unfolding refusals
  undone_live p = accepted_passed s now (Undo n) v UNDONE refl p 1

module _ (now : ℕ) (s : State) (n : ℕ) (live : not_live (expire now s) n ≡ false) where
  pub was_live : not_live s n ≡ false
  was_live = let x = session_of_lem (expire now s) n live in found_live s n (session_place (expire now s) n) x.0 (expire_session now s (session_place (expire now s) n) x.0 x.1) x.2

  not_due : mem n (those (is_due now) s.sessions) ≡ false
  unfolding expire finish leave
  not_due = let x = session_of_lem (expire now s) n live in
      ap (λ (m : ℕ). mem m (those (is_due now) s.sessions)) (sym x.2) ∙ (was_session (those (is_due now) s.sessions) s.sessions (session_place (expire now s) n) x.0 x.1).1

-- the rows of a session that does not end

differs_freed : (register : ℕ → Value) (n : ℕ) (ns : List ℕ) → mem n ns ≡ false → (r : Row) → differs register n (free_if_of ns r) ≡ differs register n r
differs_freed register n ns h no_row = refl
differs_freed register n ns h (row m k d nothing) = if_ind (λ (r : Row). differs register n r ≡ false) (mem m ns) (λ q. refl) (λ q. refl)
differs_freed register n ns h (row m k d DROP) = if_ind (λ (r : Row). differs register n r ≡ false) (mem m ns) (λ q. refl) (λ q. refl)
differs_freed register n ns h (row m k d (staged u)) = if_ind (λ (r : Row). differs register n r ≡ (eqb m n && not (same u (register k)))) (mem m ns) (λ q. other q (case_of (eqb m n))) (λ q. refl)
  where
    other : mem m ns ≡ true → (eqb m n ≡ true) ⊎ (eqb m n ≡ false) → false ≡ (eqb m n && not (same u (register k)))
    other q (inl e) = clash (mem n ns) (rw (eqb-true m n e) at q) h
    other q (inr e) = rw e

pub differs-expired : (register : ℕ → Value) (now : ℕ) (s : State) (n : ℕ) → not_live (expire now s) n ≡ false → any (differs register n) (expire now s).rows ≡ any (differs register n) s.rows
unfolding expire finish leave
differs-expired register now s n live =
    let due = those (is_due now) s.sessions in
    any_mapped (differs register n) (free_if_of due) (differs register n) (differs_freed register n due (not_due now s n live)) s.rows

-- two registers that hold the same

differs_as : (f g : ℕ → Value) → ((k : ℕ) → f k ≡ g k) → (n : ℕ) (r : Row) → differs f n r ≡ differs g n r
differs_as f g h n no_row = refl
differs_as f g h n (row m k d nothing) = refl
differs_as f g h n (row m k d (staged u)) = rw (h k)
differs_as f g h n (row m k d DROP) = refl

pub any-differs_as : (f g : ℕ → Value) → ((k : ℕ) → f k ≡ g k) → (n : ℕ) (rs : List Row) → any (differs f n) rs ≡ any (differs g n) rs
any-differs_as f g h n = any_same (differs f n) (differs g n) (differs_as f g h n)
