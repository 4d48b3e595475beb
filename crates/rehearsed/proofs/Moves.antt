-- What every command does to leases and sessions, under no rule of the clients: a lease stood before on its key, or it is the one that a GET was
-- answered with; a session stands at its place with its number, or its number is new. Each effect reads its tables back to those before it.
use Rattle.machine.specs.declared.Refusal.{Refusal}
use mathlib.Core.Path.{◌≡◌, refl, sym, ap, ◌∙◌}
use mathlib.Core.Bool.{false}
use mathlib.Core.Logic.{◌⊎◌, inl, inr}
use mathlib.Core.List.{List, [], ◌∷◌}
use mathlib.Core.Option.{Option, none, some}
use Prim.Native.Nat.{ℕ, ◌+◌, ◌≤◌}
use native.Mathlib.Omega.{arith}
use lib.Dec.{eqb, ltb}
use lib.ListN.{set}
use Rattle.lent.proofs.Choices.{if_ind}
use Rattle.machine.specs.Tables.{is_none}
use Rattle.machine.specs.Words.{word_of, LEASE}
use Rattle.machine.specs.Session.{advanced, sealed, is_due}
use Rattle.machine.specs.Decision.{grants}
use Rattle.machine.specs.State.{Value, Lease, Key, session, Staged, staged, State, free_row, kind_of, staged_in, row_of, cached, lease_on, session_at}
use Rattle.machine.specs.Expiry.{with_keys, with_clock, set_value, settle, leave, finish, those, expire}
use Rattle.machine.specs.Refusals.{decide, blocked, Sight, sight, count_of, refusal}
use Rattle.machine.specs.Effects.{Outcome, told, begins, wait, leased, missed, looked, matches, fills, asks, changed, staged_answer, with_session, with_staged, stages, to_cache, effect}
use Rattle.machine.specs.Step.{settled, step}
use Rattle.machine.specs.declared.Session.{Session}
use Rattle.machine.specs.declared.Answer.{Answer}
use Rattle.machine.specs.declared.Command.{Command}
use Rattle.machine.specs.declared.Command.TheVariants.{Begin, Get, Fill, Quar, Stage, Delta, Validate, Done, Undo, Evict, Tick}
use Rattle.machine.proofs.Views
use Rattle.machine.proofs.OrderlyKept
use Rattle.machine.proofs.Frames.{expire_lease, staged_quiet}

-- the leases of t: no answer grants one and each was there, or a GET was answered with the next token on its key and each other was there
pub data Leases (s : State) (c : Command) (a : Answer) (t : State) : Type 0 where
  quiet : eqb (word_of a) LEASE ≡ false → ((k : ℕ) (l : Lease) → lease_on t k ≡ some l → lease_on s k ≡ some l) → Leases s c a t
  grant : (n k : ℕ) → c ≡ Get n k → a ≡ Answer.Lease s.head.next_token
      → ((j : ℕ) (l : Lease) → lease_on t j ≡ some l → ((k ≡ j → ⊥) × (lease_on s j ≡ some l)) ⊎ ((k ≡ j) × (l.token ≡ s.head.next_token))) → Leases s c a t

pub record Moves (s : State) (c : Command) (r : Outcome) : Type 0 where
  pub leases : Leases s c r.answer r.after
  pub places : (i : ℕ) (x : Session) → session_at r.after i ≡ session x → OrderlyKept.StoodAt s i x
  pub grows : s.head.next_session ≤ r.after.head.next_session

module _ (s : State) (c : Command) where
  -- nothing changes
  moves_still : (a : Answer) (v : Value) → eqb (word_of a) LEASE ≡ false → Moves s c (record { answer = a; handed = v; after = s })
  moves_still a v q = record { leases = quiet q (λ k l e. e); places = λ i x e. inr (x, e, refl, λ q. q); grows = omega arith }

  -- values change, and leases go
  moves_keyed : (a : Answer) (ks : List Key) → eqb (word_of a) LEASE ≡ false → OrderlyKept.LeasesFrom ks s → Moves s c (told a (with_keys s ks))
  moves_keyed a ks q f = record { leases = quiet q f; places = λ i x e. inr (x, e, refl, λ q. q); grows = omega arith }

  -- sessions end
  moves_ended : (a : Answer) (ns : List ℕ) (ks : List Key) → eqb (word_of a) LEASE ≡ false → OrderlyKept.LeasesFrom ks s → Moves s c (told a (leave ns (with_keys s ks)))
  unfolding leave
  moves_ended a ns ks q f = record { leases = quiet q f; places = λ i x e. inr (x, (OrderlyKept.was_session ns s.sessions i x e).0, refl, λ q. q); grows = omega arith }

  moves_left : (a : Answer) (n : ℕ) → eqb (word_of a) LEASE ≡ false → Moves s c (told a (leave (n ∷ []) s))
  moves_left a n q = moves_ended a (n ∷ []) s.keys q (λ k l e. e)

  moves_finished : (n : ℕ) → Moves s c (told Answer.Done (finish (n ∷ []) to_cache s))
  unfolding finish
  moves_finished n = moves_ended Answer.Done (n ∷ []) (settle (n ∷ []) to_cache s.rows s.keys) refl (λ k l e. sym (Views.settle_lease (n ∷ []) to_cache k s.rows s.keys) ∙ e)

  moves_begun : (now : ℕ) → Moves s c (begins s now)
  unfolding begins
  moves_begun now = record { leases = quiet refl (λ k l e. e); places = OrderlyKept.begun_stood s now; grows = omega arith }

  moves_staged : (n k : ℕ) (u : Staged) → Moves s c (told (staged_answer u) (with_staged (with_session s n advanced) n k u))
  moves_staged n k u = record { leases = quiet (staged_quiet u) (λ j l e. e); places = OrderlyKept.slot_stood s n advanced (λ m. (refl, λ q. q)); grows = omega arith }

  moves_sealed : (n : ℕ) → Moves s c (told Answer.Validated (with_session s n sealed))
  moves_sealed n = record { leases = quiet refl (λ j l e. e); places = OrderlyKept.slot_stood s n sealed (λ m. (refl, λ q. refl)); grows = omega arith }

  moves_staging : (n i k : ℕ) (u : Staged) → Moves s c (stages s n i k u)
  unfolding stages
  moves_staging n i k u = if_ind (Moves s c) (ltb i (count_of s n)) (λ p. moves_still Answer.Repeated [] refl) (λ p. moves_staged n k u)

  moves_asked : (n k kind : ℕ) → Moves s c (asks s n k kind)
  unfolding asks
  moves_asked n k kind = if_ind (Moves s c) (grants (decide s k kind))
      (λ e. record { leases = quiet refl (λ j l p. (OrderlyKept.voided_was s k j l p).1); places = λ i x p. inr (x, p, refl, λ q. q); grows = omega arith }) (λ e. moves_left Answer.Aborted n refl)

-- GET answered LEASE
moves_leased : (s : State) (now n k : ℕ) → Moves s (Get n k) (leased s now k)
unfolding leased
moves_leased s now n k = record {
  leases = grant n k refl refl (λ j l e. elim (Views.key_was (λ (y : Key). y.lease) refl s.keys k _ j l e) [ inl x ↦ inl x | inr x ↦ inr (x.0, sym (ap (λ (y : Lease). y.token) (Views.some_eq new l x.1))) ]);
  places = λ i x e. inr (x, e, refl, λ q. q);
  grows = omega arith;
}
  where
    new : Lease
    new = record { token = s.head.next_token; until = now + s.head.read_life }

moves_looked : (s : State) (now n k : ℕ) (o : Option Sight) → Moves s (Get n k) (looked s now n k o)
unfolding looked missed
moves_looked s now n k (some x) = moves_still s (Get n k) (Answer.Hit x.at _) x.value refl
moves_looked s now n k none = if_ind (Moves s (Get n k)) (free_row (row_of s n k))
    (λ e. if_ind (Moves s (Get n k)) (blocked s k) (λ b. moves_still s (Get n k) (Answer.Backoff (wait s k now)) [] refl) (λ b. moves_leased s now n k))
    (λ e. moves_still s (Get n k) Answer.Ask [] refl)

moves_effect : (s : State) (now : ℕ) (c : Command) (v : Value) → Moves s c (effect s now c v)
unfolding effect fills
moves_effect s now Begin v = moves_begun s Begin now
moves_effect s now (Get n k) v = moves_looked s now n k (sight s n k)
moves_effect s now (Fill t k) v = if_ind (Moves s (Fill t k)) (matches t (lease_on s k))
    (λ m. moves_keyed s (Fill t k) Answer.Stored (set s.keys k (record { value = some v; lease = none })) refl (OrderlyKept.filled_was s k v)) (λ m. moves_still s (Fill t k) Answer.Ignored [] refl)
moves_effect s now (Quar n k d) v = if_ind (Moves s (Quar n k d)) (eqb (kind_of (row_of s n k)) d) (λ m. moves_still s (Quar n k d) Answer.Held [] refl) (λ m. moves_asked s (Quar n k d) n k d)
moves_effect s now (Stage n i k) v = moves_staging s (Stage n i k) n i k (staged v)
moves_effect s now (Delta n i k o) v = moves_staging s (Delta n i k o) n i k (changed o v (staged_in (row_of s n k)) (cached s k))
moves_effect s now (Validate n m) v = if_ind (Moves s (Validate n m)) (eqb m (count_of s n)) (λ p. moves_sealed s (Validate n m) n) (λ p. moves_left s (Validate n m) Answer.Lost n refl)
moves_effect s now (Done n) v = moves_finished s (Done n) n
moves_effect s now (Undo n) v = moves_left s (Undo n) Answer.Undone n refl
moves_effect s now (Evict k) v = if_ind (Moves s (Evict k)) (is_none (cached s k)) (λ p. moves_still s (Evict k) Answer.Empty [] refl)
    (λ p. moves_keyed s (Evict k) Answer.Evicted (set_value s.keys k none) refl (λ j l e. sym (Views.value_lease s.keys k none j) ∙ e))
moves_effect s now Tick v = moves_still s Tick Answer.Ticked [] refl

-- Expiry before the effect, and the clock after it

pub expire_session : (now : ℕ) (s : State) (i : ℕ) (x : Session) → session_at (expire now s) i ≡ session x → session_at s i ≡ session x
unfolding expire finish leave
expire_session now s i x e = (OrderlyKept.was_session (those (is_due now) s.sessions) s.sessions i x e).0

moves_expired : (s : State) (now : ℕ) (c : Command) (r : Outcome) → Moves (expire now s) c r → Moves s c r
unfolding expire finish leave
moves_expired s now c r m = record {
  leases = back m.leases;
  places = λ i x e. elim (m.places i x e) [ inl p ↦ inl p | inr p ↦ inr (p.0, expire_session now s i p.0 p.1, p.2, p.3) ];
  grows = m.grows;
}
  where
    back : Leases (expire now s) c r.answer r.after → Leases s c r.answer r.after
    back (quiet q f) = quiet q (λ k l e. expire_lease now s k l (f k l e))
    back (grant n k p q f) = grant n k p q (λ j l e. elim (f j l e) [ inl y ↦ inl (y.0, expire_lease now s j l y.1) | inr y ↦ inr y ])

moves_settled : (s : State) (now : ℕ) (c : Command) (o : Option Refusal) (r : Outcome) → Moves s c r → Moves s c (settled s now o r)
unfolding settled
moves_settled s now c (some e) r m = moves_still s c (Answer.Refused e) [] refl
moves_settled s now c none r m = record { leases = clocked m.leases; places = m.places; grows = m.grows }
  where
    clocked : Leases s c r.answer r.after → Leases s c r.answer (with_clock r.after now)
    clocked (quiet q f) = quiet q f
    clocked (grant n k p q f) = grant n k p q f

pub moves_step : (s : State) (now : ℕ) (c : Command) (v : Value) → Moves s c (step s now c v)
unfolding step
moves_step s now c v = moves_settled s now c (refusal (expire now s) now c v) (effect (expire now s) now c v) (moves_expired s now c (effect (expire now s) now c v) (moves_effect (expire now s) now c v))
