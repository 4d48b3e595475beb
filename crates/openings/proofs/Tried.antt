-- What BEGIN comes to, case by case: the table is full, the numbers are spent, or the session opens in the place that the search found.
use Rattle.std.specs.Prelude.{None}
use mathlib.Core.Path.{◌≡◌, sym, ap, ◌∙◌, subst}
use mathlib.Core.Bool.{true, false}
use mathlib.Core.List.{List, []}
use Prim.Native.Nat.{ℕ, suc, ◌+◌, ◌≤◌, ◌<◌}
use native.Mathlib.Numerals.{add-one}
use lib.ListN.{set}
use borrow.Author.Tests.{lt-ltb}
use Rattle.machine.specs.Sizes.{session_count, number_max}
use Rattle.machine.specs.Words.{FULL, NUMBERS}
use Rattle.machine.specs.Tables.{place}
use Rattle.machine.specs.Session.{opened}
use Rattle.machine.specs.State.{no_session, session, State, free}
use Rattle.machine.specs.Sound.{sound}
use Rattle.machine.specs.Expiry.{with_sessions, with_numbers}
use Rattle.machine.specs.Refusals.{sessions_full}
use Rattle.machine.specs.Effects.{Outcome, told, begins, effect}
use Rattle.machine.specs.declared.Session.{Session}
use Rattle.machine.specs.declared.Answer.{Answer}
use Rattle.machine.specs.declared.Command.TheVariants.{Begin}
use Rattle.machine.proofs.FirstRefusal
use Rattle.machine.proofs.SoundMeans.{sessions_length}
use Rattle.layout.specs.Holds.{Holds}
use Rattle.layout.specs.Search.{found}
use Rattle.layout.proofs.Search.{found_full, found_room}
use Rattle.outcome.specs.Outcome.{tried, Gives}

module _ (s : State) (ok : sound s ≡ true) (now : ℕ) where
  pub begin_full : found session_count (place free s.sessions) ≡ None → tried s now Begin [] ≡ told (Answer.Refused FULL) s
  unfolding tried
  begin_full e = rw (FirstRefusal.begin_full s [] (found_full free no_session s.sessions session_count (sessions_length s ok) e))

  module _ (i : ℕ) (l : i < session_count) (p : place free s.sessions ≡ i) where
    room : sessions_full s ≡ false
    room = found_room free no_session s.sessions session_count i (sessions_length s ok) (rw (p, lt-ltb i session_count l))

    pub begin_spent : (n : ℕ) → n ≡ s.head.next_session → number_max ≤ n → tried s now Begin [] ≡ told (Answer.Refused NUMBERS) s
    unfolding tried
    begin_spent n e h = rw (FirstRefusal.begin_numbers s [] room (rw (← e) h))

    begin_opens : s.head.next_session < number_max
        → tried s now Begin [] ≡ told (Answer.Session s.head.next_session)
        (with_numbers (with_sessions s (set s.sessions i (session (opened s.head.next_session (now + s.head.write_life))))) (suc s.head.next_session) s.head.next_token)
    unfolding tried effect begins
    begin_opens h = rw (FirstRefusal.begin_none s [] room h, p)

    -- as the code has it
    pub begin_gives : (b : List ℕ) (n life : ℕ) (x : Session) → n ≡ s.head.next_session → life ≡ s.head.write_life → n < number_max → x ≡ opened n (now + life)
        → Holds b (with_numbers (with_sessions s (set s.sessions i (session x))) (n + 1) s.head.next_token) → Gives (tried s now Begin []) (Answer.Session n) b
    begin_gives b n life x e f h g q =
        let opens = begin_opens (rw (← e) h) in
        let gx : x ≡ opened s.head.next_session (now + s.head.write_life) = g ∙ ap (λ (m : ℕ). opened m (now + life)) e ∙ ap (λ (t : ℕ). opened s.head.next_session (now + t)) f in
        let gn : n + 1 ≡ suc s.head.next_session = add-one n ∙ ap suc e in
        record {
          answer = ap Answer.Session e ∙ sym (ap (λ (o : Outcome). o.answer) opens);
          holds = rw opens (subst (Holds b)
              (ap (λ (y : Session). with_numbers (with_sessions s (set s.sessions i (session y))) (n + 1) s.head.next_token) gx
              ∙ ap (λ (m : ℕ). with_numbers (with_sessions s (set s.sessions i (session (opened s.head.next_session (now + s.head.write_life))))) m s.head.next_token) gn) q);
        }
