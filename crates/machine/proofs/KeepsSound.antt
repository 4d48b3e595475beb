-- Every command on a sound state leaves a sound state, refused or not, and START makes one. A refused command changes nothing;
-- for an accepted one, expiry keeps what is well formed, the tests that it passed say what its effect needs, and the clock moves last.
use mathlib.Core.Path.{◌≡◌, refl, sym, ap, ◌∙◌}
use mathlib.Core.Bool.{true, false, not, ◌||◌}
use mathlib.Core.List.{List, [], ◌∷◌}
use mathlib.Core.Option.{Option, none, some}
use Prim.Native.Nat.{ℕ, ◌≤◌, ◌<◌}
use native.Mathlib.Omega.{arith}
use lib.Dec.{eqb, leb, ltb}
use lib.ListN.{length, length-replicate}
use borrow.Author.Tests.{eqb-true, eqb-false, leb-false, ltb-false, not-false}
use Rattle.lent.specs.Bytes.{Bytes}
use Rattle.lent.proofs.Choices.{if_ind, or_no}
use Rattle.lent.proofs.Runs.{run_keeps}
use Rattle.machine.specs.Sizes.{key_count, session_count, row_count, value_max, step_max, life_max, time_max, number_max}
use Rattle.machine.specs.Tables.{first, is_none}
use Rattle.machine.specs.Words.{is_kind, is_operation, INVALIDATE, INCREMENTAL, REFRESH}
use Rattle.machine.specs.Decision.{grants}
use Rattle.machine.specs.State.{Value, blank, no_session, session, Staged, staged, Row, no_row, row, State, fresh, free, free_row, kind_of, staged_in, session_place, session_of, row_place, row_of, session_at, row_at, cached, lease_on}
use Rattle.machine.specs.Sound.{lifetime, sound}
use Rattle.machine.specs.Expiry.{with_clock, leave, finish, expire}
use Rattle.machine.specs.Refusals.{decide, blocked, Sight, sight, bad_key, long, count_in, count_of, refusals, refusal, start_refusals}
use Rattle.machine.specs.Effects.{Outcome, looked, missed, matches, asks, changed, stages, to_cache, effect}
use Rattle.machine.specs.Step.{settled, step, started, start}
use Rattle.machine.specs.World.{Event, command, write, World, fresh_world, commanded, written, next, run, EventBytes, AllBytes}
use Rattle.machine.specs.WellFormed.{Fine, StagedFits, LiveAs, WellFormed, Within}
use Rattle.machine.specs.declared.Refusal.{Refusal}
use Rattle.machine.specs.declared.Session.{Session}
use Rattle.machine.specs.declared.Answer.{Answer}
use Rattle.machine.specs.declared.Command.{Command}
use Rattle.machine.specs.declared.Command.TheVariants.{Begin, Get, Fill, Quar, Stage, Delta, Validate, Done, Undo, Evict, Tick}
use Rattle.machine.proofs.Views
use Rattle.machine.proofs.OrderlyKept
use Rattle.machine.proofs.Accepted
use Rattle.machine.proofs.Ranges.{within_means}
use Rattle.machine.proofs.SoundMeans.{sound_means, means_sound}
use Rattle.machine.proofs.WellKept
use Rattle.machine.proofs.DeltaFits.{changed-fits}

-- the session of number n, where it is live
live_of : (s : State) (n : ℕ) → free (session_of s n) ≡ false → LiveAs s.sessions n
live_of s n e = let x = Accepted.session_of_lem s n e in record { place = session_place s n; live = x.0; is = x.1; number = x.2 }

fine_of : (v : Value) → Bytes v → long v ≡ false → Fine v
fine_of v b e = record { short = ltb-false value_max (length v) e; bytes = b }

module _ (s : State) (now : ℕ) (h : WellFormed s now) where
  abbrev Keeps : Outcome → Type 0
  Keeps r = WellFormed r.after now

  -- GET
  well_looked : (n k : ℕ) (o : Option Sight) → (o ≡ none → free_row (row_of s n k) ≡ true → blocked s k ≡ false → s.head.next_token < number_max) → Keeps (looked s now n k o)
  unfolding looked missed
  well_looked n k (some x) f = h
  well_looked n k none f = if_ind Keeps (free_row (row_of s n k))
      (λ q. if_ind Keeps (blocked s k) (λ e. h) (λ e. WellKept.well_leased s now h k (f refl q e) (Accepted.unblocked s h.orderly k e))) (λ q. h)

  -- QUAR: who is granted a row has none on the key
  unheld : (n k kind : ℕ) → Within INVALIDATE INCREMENTAL kind → eqb (kind_of (row_of s n k)) kind ≡ false → grants (decide s k kind) ≡ true → (i d : ℕ) (v : Staged) → row_at s i ≡ row n k d v → ⊥
  unheld n k kind range f p i d v q =
      let x = Accepted.sharing s h.orderly k kind range p i n d v q in
      let r = Accepted.row_of_lem s n k (Accepted.found_row s n k (record { place = i; kind = d; what = v; is = q })) in
      let y : i ≡ r.0 = h.rows.once i r.0 q r.2 in
      let z : row n k d v ≡ row n k (kind_of (row_of s n k)) r.1 = sym q ∙ ap (row_at s) y ∙ r.2 in
      let w : d ≡ kind_of (row_of s n k) = cc in
      eqb-false (kind_of (row_of s n k)) kind f (sym w ∙ x.1 ∙ sym x.0)

  well_asked : (n k kind : ℕ) → k < key_count → Within INVALIDATE INCREMENTAL kind → free (session_of s n) ≡ false → eqb (kind_of (row_of s n k)) kind ≡ false → Keeps (asks s n k kind)
  unfolding asks
  well_asked n k kind small range e f = if_ind Keeps (grants (decide s k kind))
      (λ p. WellKept.well_granted s now h n k kind small range (live_of s n e) (unheld n k kind range f p) (Accepted.sharing s h.orderly k kind range p)) (λ p. WellKept.well_leave s now h (n ∷ []))

  -- STAGE and DELTA: a step that acts is the session's count, so the count has room
  well_stages : (n i k d : ℕ) (u : Staged) → i < step_max → free (session_of s n) ≡ false → free_row (row_of s n k) ≡ false → not (eqb (kind_of (row_of s n k)) d) ≡ false → ltb (count_of s n) i ≡ false → (d ≡ INVALIDATE → ⊥) → StagedFits d u
      → Keeps (stages s n i k u)
  unfolding stages
  well_stages n i k d u small e f q ahead apart fits = if_ind Keeps (ltb i (count_of s n)) (λ p. h)
      (λ p. let r = Accepted.row_of_lem s n k f in
      let is : kind_of (row_of s n k) ≡ d = eqb-true (kind_of (row_of s n k)) d (not-false _ q) in
      WellKept.well_staged s now h n k r.0 (kind_of (row_of s n k)) u r.1 r.2 (λ z. apart (sym is ∙ z)) (rw is fits) (λ j x a b. room j x a b p))
    where
      room : (j : ℕ) (x : Session) → session_at s j ≡ session x → x.number ≡ n → ltb i (count_of s n) ≡ false → x.count < step_max
      room j x a b p =
          let w : count_of s n ≡ x.count = ap count_in (Accepted.found_session s h.orderly n j x a b) in
          let c = ltb-false i (count_of s n) p in omega arith

  staged_in_lem : (r : Row) (i : ℕ) → row_at s i ≡ r → kind_of r ≡ INCREMENTAL → StagedFits INCREMENTAL (staged_in r)
  staged_in_lem no_row i e q = tt
  staged_in_lem (row n k d v) i e q = rw q at (h.rows.each i e).what

  -- each accepted command
  well_effect : (c : Command) (v : Value) → Bytes v → refusal s now c v ≡ none → WellFormed (effect s now c v).after now
  unfolding effect refusals
  well_effect Begin v b e = WellKept.well_begin s now h (leb-false number_max s.head.next_session (Accepted.passed s now Begin v e 2))
  well_effect (Get n k) v b e = well_looked n k (sight s n k) (λ p q r. leb-false number_max s.head.next_token (Accepted.room_for s now n k v e p q r))
  well_effect (Fill t k) v b e = if_ind Keeps (matches t (lease_on s k)) (λ m. WellKept.well_fill s now h k v (fine_of v b (Accepted.passed s now (Fill t k) v e 2))) (λ m. h)
  well_effect (Quar n k kind) v b e = let no = Accepted.passed s now (Quar n k kind) v e in
      if_ind Keeps (eqb (kind_of (row_of s n k)) kind) (λ m. h)
      (λ m. well_asked n k kind (leb-false key_count k (or_no (bad_key k) (not (is_kind kind)) (no 1)).0) (Accepted.is_kind_lem kind (not-false _ (or_no (bad_key k) (not (is_kind kind)) (no 1)).1)) (no 2) m)
  well_effect (Stage n i k) v b e = let no = Accepted.passed s now (Stage n i k) v e in
      well_stages n i k REFRESH (staged v) (leb-false step_max i (or_no (bad_key k) (leb step_max i) (no 1)).1) (no 3) (no 5) (no 6) (no 7) (λ q. omega arith) (omega arith, fine_of v b (no 2))
  well_effect (Delta n i k operation) v b e = let no = Accepted.passed s now (Delta n i k operation) v e in
      well_stages n i k INCREMENTAL (changed operation v (staged_in (row_of s n k)) (cached s k)) (leb-false step_max i (or_no (bad_key k || not (is_operation operation)) (leb step_max i) (no 1)).1) (no 3) (no 5) (no 6) (no 7) (λ q. omega arith)
      (changed-fits operation v (staged_in (row_of s n k)) (cached s k) b (staged_in_lem (row_of s n k) (row_place s n k) refl (eqb-true (kind_of (row_of s n k)) INCREMENTAL (not-false _ (no 6)))) (λ u p. h.keys.values k p))
  well_effect (Validate n m) v b e = if_ind Keeps (eqb m (count_of s n)) (λ p. WellKept.well_seal s now h n) (λ p. WellKept.well_leave s now h (n ∷ []))
  well_effect (Done n) v b e = WellKept.well_finish s now (n ∷ []) to_cache WellKept.to_cache_fine h
  well_effect (Undo n) v b e = WellKept.well_leave s now h (n ∷ [])
  well_effect (Evict k) v b e = if_ind Keeps (is_none (cached s k)) (λ p. h) (λ p. WellKept.well_evict s now h k)
  well_effect Tick v b e = h

-- Each command

-- an accepted command's time
expired_time : (s : State) (now : ℕ) (c : Command) (v : Value) → refusal (expire now s) now c v ≡ none → (s.head.clock ≤ now) × (now ≤ time_max)
unfolding expire finish leave
expired_time s now c v e =
    let x : (ltb now s.head.clock || ltb time_max now) ≡ false = Accepted.passed (expire now s) now c v e 0 in
    (ltb-false now s.head.clock (or_no (ltb now s.head.clock) (ltb time_max now) x).0, ltb-false time_max now (or_no (ltb now s.head.clock) (ltb time_max now) x).1)

-- expiry alone keeps a state sound, at its clock
pub expire-sound : (s : State) (now : ℕ) → sound s ≡ true → sound (expire now s) ≡ true
unfolding expire finish leave
expire-sound s now h = means_sound (expire now s) (WellKept.well_expire s now s.head.clock (sound_means s h))

-- the state in which an accepted command acts
pub well_expired : (s : State) (now : ℕ) (c : Command) (v : Value) → sound s ≡ true → refusal (expire now s) now c v ≡ none → WellFormed (expire now s) now
well_expired s now c v h e = let t = expired_time s now c v e in WellKept.well_later (expire now s) s.head.clock now t.0 t.1 (WellKept.well_expire s now s.head.clock (sound_means s h))

settled-sound : (s : State) (now : ℕ) (c : Command) (v : Value) → Bytes v → sound s ≡ true → (o : Option Refusal) → refusal (expire now s) now c v ≡ o → sound (settled s now o (effect (expire now s) now c v)).after ≡ true
unfolding settled
settled-sound s now c v b h (some e) p = h
settled-sound s now c v b h none p = means_sound (with_clock t now) (WellKept.well_clock t now (well_effect (expire now s) now (well_expired s now c v h p) c v b p))
  where
    t : State
    t = (effect (expire now s) now c v).after

pub step-sound : (s : State) (now : ℕ) (c : Command) (v : Value) → Bytes v → sound s ≡ true → sound (step s now c v).after ≡ true
unfolding step
step-sound s now c v b h = settled-sound s now c v b h (refusal (expire now s) now c v) refl

-- START

pub fresh-sound : (read_life write_life : ℕ) → lifetime read_life ≡ true → lifetime write_life ≡ true → sound (fresh read_life write_life) ≡ true
unfolding fresh
fresh-sound read_life write_life r w = means_sound (fresh read_life write_life) (record {
  orderly = OrderlyKept.orderly_fresh read_life write_life;
  head = record { time = omega arith; read_life = within_means 1 life_max read_life r; write_life = within_means 1 life_max write_life w; next_session = (omega arith, omega arith); next_token = (omega arith, omega arith) };
  keys = record {
    length = length-replicate key_count blank;
    values = λ k {v} e. Views.fresh_value read_life write_life k v e;
    leases = λ k {l} e. Views.fresh_lease read_life write_life k l e;
    distinct = λ k j {l} {m} e f q. Views.fresh_lease read_life write_life k l e;
  };
  sessions = record { length = length-replicate session_count no_session; each = λ i {x} e. Views.fresh_session read_life write_life i x e };
  rows = record {
    length = length-replicate row_count no_row;
    each = λ i {n} {k} {d} {u} e. Views.fresh_row read_life write_life i n k d u e;
    once = λ i j {n} {k} {d} {c} {u} {v} e f. Views.fresh_row read_life write_life i n k d u e;
  };
  live = λ i {n} {k} {d} {u} e. Views.fresh_row read_life write_life i n k d u e;
})

-- whatever the buffer held, READY leaves a sound state
started-sound : (s : State) (read_life write_life : ℕ) (o : Option Refusal) → first (start_refusals read_life write_life) ≡ o → (started read_life write_life o s).answer ≡ Answer.Ready → sound (started read_life write_life o s).after ≡ true
started-sound s read_life write_life (some e) p a = Views.answers_differ (Answer.Refused e) Answer.Ready refl a
started-sound s read_life write_life none p a =
    let x : (not (lifetime read_life) || not (lifetime write_life)) ≡ false = Views.first-none (start_refusals read_life write_life) p 0 in
    fresh-sound read_life write_life (not-false _ (or_no (not (lifetime read_life)) (not (lifetime write_life)) x).0) (not-false _ (or_no (not (lifetime read_life)) (not (lifetime write_life)) x).1)

-- and a START that is refused keeps one
pub start_keeps_sound : (s : State) (read_life write_life : ℕ) → sound s ≡ true → sound (start s read_life write_life).after ≡ true
unfolding start
start_keeps_sound s read_life write_life h = go (first (start_refusals read_life write_life)) refl
  where
    go : (o : Option Refusal) → first (start_refusals read_life write_life) ≡ o → sound (started read_life write_life o s).after ≡ true
    go (some e) p = h
    go none p = started-sound s read_life write_life none p refl

-- Every run

next-sound : (w : World) (e : Event) → EventBytes e → sound w.state ≡ true → sound (next w e).state ≡ true
unfolding commanded written
next-sound w (command now c v) b h = step-sound w.state now c v b h
next-sound w (write n k v) b h = h

-- each state that a run from START reaches
pub reached-sound : (read_life write_life : ℕ) (es : List Event) → lifetime read_life ≡ true → lifetime write_life ≡ true → AllBytes es → sound (run (fresh_world read_life write_life) es).state ≡ true
reached-sound read_life write_life es r w b = run_keeps next run (λ w. refl) (λ w e es. refl) (λ w. AllBytes) (λ (w : World). sound w.state ≡ true) (λ w e es b h. (next-sound w e b.0 h, b.1))
    (fresh_world read_life write_life) es b (fresh-sound read_life write_life r w)
