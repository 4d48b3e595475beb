-- The wait of a BACKOFF is the one that 01 names. In the state after expiry no lease and no open session ends at or before now,
-- so what blocks ends later, by its lifetime at the most; and the latest deadline over the rows on the key is a deadline of one of them.
use mathlib.Core.Path.{◌≡◌, refl, sym, ap, ◌∙◌, subst}
use mathlib.Core.Bool.{true, false}
use mathlib.Core.Logic.{◌⊎◌, inl, inr}
use mathlib.Core.List.{List, [], ◌∷◌}
use mathlib.Core.Option.{Option, none, some}
use Prim.Native.Nat.{ℕ, zero, suc, ◌+◌, ◌-◌, ◌≤◌, ◌<◌, max}
use native.Mathlib.Omega.{arith}
use lib.Dec.{eqb, leb}
use lib.ListN.{length, get_or}
use borrow.Author.Tests.{eqb-true, eqb-false, leb-true, leb-false}
use Rattle.lent.proofs.Choices.{case_of, clash}
use Rattle.machine.specs.Tables.{place, find, mem}
use Rattle.machine.specs.Session.{is_due}
use Rattle.machine.specs.Decision.{decision}
use Rattle.machine.specs.State.{Value, Lease, Slot, no_session, session, Staged, Row, no_row, row, State, free_row, on, session_place, session_of, row_of, session_at, lease_on}
use Rattle.machine.specs.Sound.{sound}
use Rattle.machine.specs.Expiry.{leave, finish, those, expire}
use Rattle.machine.specs.Refusals.{decide, blocked, Sight, sight, refusal}
use Rattle.machine.specs.Effects.{life_end, slot_end, later, latest, lease_end, less_now, wait, leased, missed, looked, effect}
use Rattle.machine.specs.Step.{settled, step}
use Rattle.machine.specs.World.{HasRow, Sealed}
use Rattle.machine.specs.WellFormed.{Within, WellFormed}
use Rattle.machine.specs.Statements.{OpenUntil, Waits, for_lease, for_sealed, for_open}
use Rattle.machine.specs.declared.Refusal.{Refusal}
use Rattle.machine.specs.declared.Life.{Life}
use Rattle.machine.specs.declared.Session.{Session}
use Rattle.machine.specs.declared.Answer.{Answer}
use Rattle.machine.specs.declared.Command.TheVariants.{Get}
use Rattle.machine.proofs.Views
use Rattle.machine.proofs.OrderlyKept
use Rattle.machine.proofs.Accepted
use Rattle.machine.proofs.Frames.{expired_was}
use Rattle.machine.proofs.KeepsSound.{well_expired}

-- After expiry

module _ (now : ℕ) (s : State) where
  -- no lease ends at or before now
  expired_leases : (k : ℕ) (l : Lease) → lease_on (expire now s) k ≡ some l → now < l.until
  expired_leases k l e = (expired_was now s k l e).1

  -- and no open session
  expired_sessions : (i : ℕ) (x : Session) (until : ℕ) → session_at (expire now s) i ≡ session x → x.life ≡ Life.Open until → now < until
  unfolding expire finish leave
  expired_sessions i x until e q = let r = OrderlyKept.was_session (those (is_due now) s.sessions) s.sessions i x e in go r.0 r.1 (case_of (leb until now))
    where
      go : session_at s i ≡ session x → mem x.number (those (is_due now) s.sessions) ≡ false → (leb until now ≡ true) ⊎ (leb until now ≡ false) → now < until
      go p m (inl d) = clash _ (Views.those_has (is_due now) s.sessions i x p (rw q d)) m
      go p m (inr d) = leb-false until now d

-- The latest deadline

module _ (s : State) (k : ℕ) where
  -- the deadline of the session with a row, or none
  End : List Row → Option ℕ → Type 0
  End rs o = (n : ℕ) × HasRow rs n k × (slot_end (session_of s n) ≡ o)

  -- each session with a row on the key ends by then, and one of them then; or there is none
  record Latest (rs : List Row) (until : ℕ) : Type 0 where
    each : (i n d : ℕ) (u : Staged) → get_or rs i no_row ≡ row n k d u → (t : ℕ) × (slot_end (session_of s n) ≡ some t) × (t ≤ until)
    one : (until ≡ 0) ⊎ End rs (some until)

  LatestOr : List Row → Option ℕ → Type 0
  LatestOr rs none = End rs none
  LatestOr rs (some until) = Latest rs until

  held_cons : (r : Row) (rs : List Row) (o : Option ℕ) → End rs o → End (r ∷ rs) o
  unfolding End
  held_cons r rs o x = (x.0, record { place = suc x.1.place; kind = x.1.kind; what = x.1.what; is = x.1.is }, x.2)

  -- a row that is not on the key
  passed_over : (r : Row) (rs : List Row) → ((n d : ℕ) (u : Staged) → r ≡ row n k d u → ⊥) → (o : Option ℕ) → LatestOr rs o → LatestOr (r ∷ rs) o
  unfolding LatestOr
  passed_over r rs f none x = held_cons r rs none x
  passed_over r rs f (some until) x = record { each = each; one = elim x.one [ inl p ↦ inl p | inr p ↦ inr (held_cons r rs (some until) p) ] }
    where
      each : (i n d : ℕ) (u : Staged) → get_or (r ∷ rs) i no_row ≡ row n k d u → (t : ℕ) × (slot_end (session_of s n) ≡ some t) × (t ≤ until)
      each zero n d u e = absurd (f n d u e)
      each (suc i) n d u e = x.each i n d u e

  -- a row on it, whose session ends as a says
  counted_in : (n d : ℕ) (u : Staged) (rs : List Row) (a b : Option ℕ) → slot_end (session_of s n) ≡ a → LatestOr rs b → LatestOr (row n k d u ∷ rs) (later a b)
  unfolding LatestOr End
  counted_in n d u rs none b p x = (n, record { place = 0; kind = d; what = u; is = refl }, p)
  counted_in n d u rs (some t) none p x = held_cons (row n k d u) rs none x
  counted_in n d u rs (some t) (some until) p x = record { each = each; one = one (case_of (leb until t)) }
    where
      each : (i m c : ℕ) (v : Staged) → get_or (row n k d u ∷ rs) i no_row ≡ row m k c v → (t' : ℕ) × (slot_end (session_of s m) ≡ some t') × (t' ≤ max t until)
      each zero m c v e = let q : n ≡ m = cc in (t, rw (← q) p, omega arith)
      each (suc i) m c v e = let y = x.each i m c v e in (y.0, y.1, omega (arith, y.2))

      one : (leb until t ≡ true) ⊎ (leb until t ≡ false) → (max t until ≡ 0) ⊎ End (row n k d u ∷ rs) (some (max t until))
      one (inl q) = let z : max t until ≡ t = omega (arith, leb-true until t q) in inr (n, record { place = 0; kind = d; what = u; is = refl }, rw z p)
      one (inr q) = let z : max t until ≡ until = omega (arith, leb-false until t q) in elim x.one [ inl y ↦ inl (z ∙ y) | inr y ↦ inr (rw z (held_cons (row n k d u) rs (some until) y)) ]

  latest_is : (rs : List Row) → LatestOr rs (latest s k rs)
  unfolding LatestOr
  latest_is [] = record { each = λ i n d u e. Views.no_row_lem n k d u e; one = inl refl }
  latest_is (no_row ∷ rs) = passed_over no_row rs (λ n d u e. Views.no_row_lem n k d u e) (latest s k rs) (latest_is rs)
  latest_is (row n j d u ∷ rs) = go (case_of (eqb j k)) (latest_is rs)
    where
      go : (eqb j k ≡ true) ⊎ (eqb j k ≡ false) → LatestOr rs (latest s k rs) → LatestOr (row n j d u ∷ rs) (latest s k (row n j d u ∷ rs))
      go (inl q) x = rw (q, eqb-true j k q) (counted_in n d u rs (slot_end (session_of s n)) (latest s k rs) refl x)
      go (inr q) x = rw q (passed_over (row n j d u) rs (λ m c v e. let p : j ≡ k = cc in eqb-false j k q p) (latest s k rs) x)

-- What blocks

ended-sealed : (p : Life) → life_end p ≡ none → p ≡ Life.Sealed
ended-sealed (Life.Open t) e = Views.no_some t (sym e)
ended-sealed Life.Sealed e = refl

ended_open : (p : Life) (t : ℕ) → life_end p ≡ some t → p ≡ Life.Open t
ended_open (Life.Open u) t e = ap Life.Open (Views.some_eq u t e)
ended_open Life.Sealed t e = Views.no_some t e

open_of : (s : State) (n t : ℕ) → slot_end (session_of s n) ≡ some t → OpenUntil s n t
open_of s n t e = go (session_of s n) refl e
  where
    go : (y : Slot) → session_of s n ≡ y → slot_end y ≡ some t → OpenUntil s n t
    go no_session p q = Views.no_some t q
    go (session x) p q = let r = Accepted.session_of_lem s n (rw p refl) in record { place = session_place s n; live = x; is = p; number = (let z : session x ≡ session r.0 = sym p ∙ r.1 in cc); life = ended_open x.life t q }

module _ (t : State) (now k : ℕ) (h : WellFormed t now) where
  sealed-of : (n : ℕ) → HasRow t.rows n k → slot_end (session_of t n) ≡ none → Sealed t n
  sealed-of n r e =
      let x = h.live r.place r.is in
      Accepted.sealed_session t n (Accepted.found_live t n x.place x.live x.is x.number) (λ y q. ended-sealed y.life (rw q at e))

  -- a key that is blocked with no I lease on it has a row on it
  blocked_row : blocked t k ≡ true → lease_on t k ≡ none → (n : ℕ) × HasRow t.rows n k
  unfolding blocked decide decision
  blocked_row b e = go (find (on k) no_row t.rows) refl (Views.find_test (on k) no_row t.rows)
    where
      go : (r : Row) → find (on k) no_row t.rows ≡ r → (r ≡ no_row) ⊎ (on k r ≡ true) → (n : ℕ) × HasRow t.rows n k
      go no_row p q = clash false (rw (p, e) at b) refl
      go (row n j d u) p (inl q) = Views.no_row_lem n j d u (sym q)
      go (row n j d u) p (inr q) = (n, record { place = place (on k) t.rows; kind = d; what = u; is = p ∙ ap (λ (x : ℕ). row n x d u) (eqb-true j k q) })

  waits : ((l : Lease) → lease_on t k ≡ some l → now < l.until) → ((i : ℕ) (x : Session) (until : ℕ) → session_at t i ≡ session x → x.life ≡ Life.Open until → now < until)
      → blocked t k ≡ true → Waits t now k (wait t k now)
  unfolding wait LatestOr End
  waits leases sessions b = go (lease_on t k) refl (latest t k t.rows) (latest_is t k t.rows)
    where
      go : (o : Option Lease) → lease_on t k ≡ o → (r : Option ℕ) → LatestOr t k t.rows r → Waits t now k (less_now (lease_end o r) now)
      go (some l) p r x = let a = leases l p in let c = (h.keys.leases k p).deadline in for_lease l p (omega arith) (omega arith, omega arith)
      go none p none x = for_sealed x.0 x.1 (sealed-of x.0 x.1 x.2) refl
      go none p (some until) x = last x.one
        where
          held : (n : ℕ) × HasRow t.rows n k
          held = blocked_row b p

          -- what a session with a row on the key is open until
          ends : (m : ℕ) → HasRow t.rows m k → (u : ℕ) × OpenUntil t m u × (u ≤ until) × (now < u)
          ends m r = let y = x.each r.place m r.kind r.what r.is in let z = open_of t m y.0 y.1 in (y.0, z, y.2, sessions z.place z.live y.0 z.is z.life)

          after : now < until
          after = let y = ends held.0 held.1 in let a = y.2 in let c = y.3 in omega arith

          back : until - now + now ≡ until
          back = omega (arith, after)

          last : (until ≡ 0) ⊎ ((n : ℕ) × HasRow t.rows n k × (slot_end (session_of t n) ≡ some until)) → Waits t now k (until - now)
          last (inl z) = absurd (omega (arith, after))
          last (inr z) = let y = open_of t z.0 until z.2 in let a = (h.sessions.each y.place y.is).deadline until y.life in
              for_open z.0 z.1 (rw back y) (λ m r. let v = ends m r in (v.0, v.1, rw back v.2)) (omega (arith, after), omega (arith, after))

-- The answer

-- a GET is answered BACKOFF only on a key that is blocked, with the wait
looked_backoff : (t : State) (now n k w : ℕ) (o : Option Sight) → (looked t now n k o).answer ≡ Answer.Backoff w → (blocked t k ≡ true) × (wait t k now ≡ w)
unfolding looked missed leased
looked_backoff t now n k w (some x) e = Views.answers_differ (Answer.Hit x.at (length x.value)) (Answer.Backoff w) refl e
looked_backoff t now n k w none e = go (case_of (free_row (row_of t n k))) (case_of (blocked t k))
  where
    go : (free_row (row_of t n k) ≡ true) ⊎ (free_row (row_of t n k) ≡ false) → (blocked t k ≡ true) ⊎ (blocked t k ≡ false) → (blocked t k ≡ true) × (wait t k now ≡ w)
    go (inl p) (inl q) = let z : Answer.Backoff (wait t k now) ≡ Answer.Backoff w = rw (p, q) at e in (q, cc)
    go (inl p) (inr q) = Views.answers_differ (Answer.Lease t.head.next_token) (Answer.Backoff w) refl (rw (p, q) at e)
    go (inr p) q = Views.answers_differ Answer.Ask (Answer.Backoff w) refl (rw p at e)

settled_backoff : (s : State) (now n k w : ℕ) (v : Value) → sound s ≡ true → (o : Option Refusal) → refusal (expire now s) now (Get n k) v ≡ o
    → (settled s now o (effect (expire now s) now (Get n k) v)).answer ≡ Answer.Backoff w → Waits (expire now s) now k w
unfolding settled effect
settled_backoff s now n k w v h (some c) p e = Views.answers_differ (Answer.Refused c) (Answer.Backoff w) refl e
settled_backoff s now n k w v h none p e =
    let r = looked_backoff (expire now s) now n k w (sight (expire now s) n k) e in
    subst (Waits (expire now s) now k) r.1 (waits (expire now s) now k (well_expired s now (Get n k) v h p) (expired_leases now s k) (expired_sessions now s) r.0)

-- of a GET that is answered BACKOFF w, on the state after expiry
pub backoff_waits : (s : State) (now n k w : ℕ) (v : Value) → sound s ≡ true → (step s now (Get n k) v).answer ≡ Answer.Backoff w → Waits (expire now s) now k w
unfolding step
backoff_waits s now n k w v h e = settled_backoff s now n k w v h (refusal (expire now s) now (Get n k) v) refl e

-- 0, or from 1 to a lifetime
waits_range : (t : State) (now k w : ℕ) → Waits t now k w → (w ≡ 0) ⊎ (Within 1 t.head.read_life w ⊎ Within 1 t.head.write_life w)
waits_range t now k w (for_lease l p q r) = inr (inl r)
waits_range t now k w (for_sealed n p q r) = inl r
waits_range t now k w (for_open n p q f r) = inr (inr r)

pub backoff_range : (s : State) (now n k w : ℕ) (v : Value) → sound s ≡ true → (step s now (Get n k) v).answer ≡ Answer.Backoff w → (w ≡ 0) ⊎ (Within 1 s.head.read_life w ⊎ Within 1 s.head.write_life w)
unfolding expire finish leave
backoff_range s now n k w v h e = waits_range (expire now s) now k w (backoff_waits s now n k w v h e)
