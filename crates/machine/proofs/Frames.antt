-- Each accepted command proves its frame. Sessions end without their writers' rows going from under a value (expiry spares
-- the sealed; UNDO, ABORTED and LOST end a session that has not written; DONE settles its keys to the register's values by
-- rule 4); FILL stores the register's value by rule 1; every other effect keeps all values.
use mathlib.Core.Path.{◌≡◌, refl, sym, ap, ◌∙◌}
use mathlib.Core.Bool.{Bool, true, false, and-true}
use mathlib.Core.Logic.{◌⊎◌, inl, inr}
use mathlib.Core.List.Memᴰ
use mathlib.Core.List.{List, [], ◌∷◌, map, Memᴰ}
use mathlib.Core.Option.{Option, none, some}
use Prim.Native.Nat.{ℕ, ◌+◌, ◌≤◌, ◌<◌}
use native.Mathlib.Omega.{arith}
use borrow.Author.Tests.{eq-eqb, ne_eqb}
use lib.Dec.{eqb, ltb}
use lib.ListN.{get_or, set, get_or-map}
use Rattle.lent.proofs.Choices.{case_of, clash, if_ind}
use Rattle.machine.specs.Tables.{mem, put_at, is_none}
use Rattle.machine.specs.Words.{word_of, LEASE, INVALIDATE}
use Rattle.machine.specs.Session.{advanced, sealed, is_due}
use Rattle.machine.specs.Decision.{grants}
use Rattle.machine.specs.State.{Value, Head, Lease, Key, blank, Slot, no_session, session, Staged, nothing, staged, DROP, Row, no_row, row, State, free, free_row, kind_of, staged_in, session_place, session_of, row_of, cached, lease_on, row_at}
use Rattle.machine.specs.Expiry.{with_head, with_keys, with_sessions, with_rows, set_value, set_lease, free_if_of, settle, leave, finish, lapsed_value, lapsed_lease, those, expire}
use Rattle.machine.specs.Refusals.{decide, blocked, Sight, sight, sealed_in, count_of, refusals, refusal}
use Rattle.machine.specs.Effects.{Outcome, begins, wait, leased, missed, looked, matches, fills, asks, changed, staged_answer, with_session, with_staged, stages, to_cache, effect}
use Rattle.machine.specs.World.{World, since_grant, Rules}
use Rattle.machine.specs.declared.Session.{Session}
use Rattle.machine.specs.declared.Answer.{Answer}
use Rattle.machine.specs.declared.Command.{Command}
use Rattle.machine.specs.declared.Command.TheVariants.{Begin, Get, Fill, Quar, Stage, Delta, Validate, Done, Undo, Evict, Tick}
use Rattle.machine.proofs.Views
use Rattle.machine.proofs.OrderlyKept
use Rattle.machine.proofs.Accepted
use Rattle.machine.proofs.Invariant.{RowOn, Written, Good, Frame, no_row_on}

-- What expiry leaves was there

module _ (now : ℕ) (s : State) where
  -- a lease, and it ends after now
  pub expired_was : (k : ℕ) (l : Lease) → lease_on (expire now s) k ≡ some l → (lease_on s k ≡ some l) × (now < l.until)
  unfolding expire finish leave
  expired_was k l e = OrderlyKept.lapsed_was s now k l (sym (Views.settle_lease (those (is_due now) s.sessions) lapsed_value k s.rows (map (lapsed_lease now) s.keys)) ∙ e)

  pub expire_lease : (k : ℕ) (l : Lease) → lease_on (expire now s) k ≡ some l → lease_on s k ≡ some l
  expire_lease k l e = (expired_was k l e).0

  pub expire_value : (k : ℕ) (v : Value) → cached (expire now s) k ≡ some v → cached s k ≡ some v
  unfolding expire finish leave
  expire_value k v e = elim (Views.settle_value (those (is_due now) s.sessions) lapsed_value k v s.rows (map (lapsed_lease now) s.keys) e) [
    | inl h ↦ sym (ap (λ (x : Key). x.value) (get_or-map (lapsed_lease now) s.keys k blank)) ∙ h.0
    | inr h ↦ Views.no_some v h.gives
  ]

  pub expire_row_on : (k : ℕ) → RowOn (expire now s).rows k → RowOn s.rows k
  unfolding expire finish leave
  expire_row_on k q = record { number = q.number; holds = record { place = q.holds.place; kind = q.holds.kind; what = q.holds.what; is = (OrderlyKept.was_row (those (is_due now) s.sessions) s.rows q.holds.place q.number k q.holds.kind q.holds.what q.holds.is).0 } }

-- a writer's row stays where each writer's row on the key stays at its place
written_still : (rs ts : List Row) (wrote : ℕ → Bool) (k : ℕ) → ((i n d : ℕ) (v : Staged) → get_or rs i no_row ≡ row n k d v → wrote n ≡ true → (u : Staged) × (get_or ts i no_row ≡ row n k d u)) → Written rs wrote k → Written ts wrote k
written_still rs ts wrote k f q =
    let x = q.holds in
    let r = f x.place q.number x.kind x.what x.is q.did in
    record { number = q.number; did = q.did; holds = record { place = x.place; kind = x.kind; what = r.0; is = r.1 } }

-- so where none of them is freed
written_unfreed : (ns : List ℕ) (rs : List Row) (wrote : ℕ → Bool) (k : ℕ) → ((i n d : ℕ) (v : Staged) → get_or rs i no_row ≡ row n k d v → wrote n ≡ true → mem n ns ≡ false) → Written rs wrote k → Written (map (free_if_of ns) rs) wrote k
written_unfreed ns rs wrote k f = written_still rs (map (free_if_of ns) rs) wrote k (λ i n d v e did. (v, OrderlyKept.still_row ns rs i n k d v e (f i n d v e did)))

-- the answer that stages grants no lease
pub staged_quiet : (u : Staged) → eqb (word_of (staged_answer u)) LEASE ≡ false
staged_quiet nothing = refl
staged_quiet (staged v) = refl
staged_quiet DROP = refl

module _ (w : World) (g : Good w) where
  abbrev pub Framed : Outcome → Type 0
  Framed r = Frame w r.answer r.after

  -- the header and the sessions change, nothing else: each session has a new number, or stood there
  frame_sessions : (a : Answer) (h : Head) (l : List Slot) → eqb (word_of a) LEASE ≡ false → w.state.head.next_session ≤ h.next_session
      → ((i : ℕ) (x : Session) → get_or l i no_session ≡ session x → OrderlyKept.StoodAt w.state i x) → Frame w a (with_head (with_sessions w.state l) h)
  frame_sessions a h l quiet more stood = record {
    keeps = λ k v p q. p;
    value = λ k v p. inr (p, λ q. q);
    opens = stood;
    grows = more;
    unwritten = λ k l p u m. g.unwritten k l p u (rw quiet at m);
  }

  -- nothing changes
  pub frame_kept : (a : Answer) → eqb (word_of a) LEASE ≡ false → Frame w a w.state
  frame_kept a quiet = frame_sessions a w.state.head w.state.sessions quiet (omega arith) (λ i x p. inr (x, p, refl, λ q. q))

  -- values and leases change, nothing else: no lease is new, and no value but the register's, on a key with no row
  frame_keys : (a : Answer) (ks : List Key) → eqb (word_of a) LEASE ≡ false
      → ((k : ℕ) (v : Value) → (get_or ks k blank).value ≡ some v → (cached w.state k ≡ some v) ⊎ ((v ≡ w.register k) × (RowOn w.state.rows k → ⊥)))
      → OrderlyKept.LeasesFrom ks w.state
      → Frame w a (with_keys w.state ks)
  frame_keys a ks quiet fv fl = record {
    keeps = λ k v p q. elim (fv k v p) [ inl h ↦ h | inr h ↦ absurd (h.1 q) ];
    value = λ k v p. elim (fv k v p) [ inl h ↦ inr (h, λ x. x) | inr h ↦ inl h.0 ];
    opens = λ i x p. inr (x, p, refl, λ q. q);
    grows = omega arith;
    unwritten = λ k l p u m. g.unwritten k l (fl k l p) u (rw quiet at m);
  }

  -- sessions end, and no value or lease is new; a value stays only where no writer among them has a row
  frame_ends : (a : Answer) (ns : List ℕ) (ks : List Key) → eqb (word_of a) LEASE ≡ false
      → ((k : ℕ) (v : Value) → (get_or ks k blank).value ≡ some v → (cached w.state k ≡ some v) × ((i n d : ℕ) (u : Staged) → row_at w.state i ≡ row n k d u → w.wrote n ≡ true → mem n ns ≡ false))
      → OrderlyKept.LeasesFrom ks w.state
      → Frame w a (leave ns (with_keys w.state ks))
  unfolding leave
  frame_ends a ns ks quiet fv fl = record {
    keeps = λ k v p q. (fv k v p).0;
    value = λ k v p. inr ((fv k v p).0, written_unfreed ns w.state.rows w.wrote k (fv k v p).1);
    opens = λ i x p. inr (x, (OrderlyKept.was_session ns w.state.sessions i x p).0, refl, λ q. q);
    grows = omega arith;
    unwritten = λ k l p u m. g.unwritten k l (fl k l p) u (rw quiet at m);
  }

  -- expiry: who has written is sealed, and does not lapse
  pub frame_expire : (now : ℕ) → Frame w Answer.Ticked (expire now w.state)
  unfolding expire finish leave
  frame_expire now = frame_ends Answer.Ticked (those (is_due now) w.state.sessions) (settle (those (is_due now) w.state.sessions) lapsed_value w.state.rows (map (lapsed_lease now) w.state.keys)) refl
      (λ k v p. (expire_value now w.state k v p, λ i n d u r did. spared n did)) (expire_lease now w.state)
    where
      spared : (n : ℕ) → w.wrote n ≡ true → mem n (those (is_due now) w.state.sessions) ≡ false
      spared n did = elim (case_of (mem n (those (is_due now) w.state.sessions))) [
        | inl q ↦ absurd (let r = Views.among_those (is_due now) w.state.sessions n q in Views.due_open now r.1.life r.4 ((g.writers n did).1 r.0 r.1 r.2 r.3))
        | inr q ↦ q
      ]

  -- DONE, by rule 4: a value that it caches is the register's, on a key where no row is left
  frame_done : (n : ℕ) → ((i k d : ℕ) (v : Value) → row_at w.state i ≡ row n k d (staged v) → v ≡ w.register k) → Frame w Answer.Done (finish (n ∷ []) to_cache w.state)
  unfolding finish leave
  frame_done n rule = record {
    keeps = λ k v p q. keeps k v q (Views.settle_value (n ∷ []) to_cache k v s.rows s.keys p);
    value = λ k v p. value k v (Views.settle_value (n ∷ []) to_cache k v s.rows s.keys p);
    opens = λ i x p. inr (x, (OrderlyKept.was_session (n ∷ []) s.sessions i x p).0, refl, λ q. q);
    grows = omega arith;
    unwritten = λ k l p u m. g.unwritten k l (sym (Views.settle_lease (n ∷ []) to_cache k s.rows s.keys) ∙ p) u m;
  }
    where
      s : State
      s = w.state

      After : ℕ → Value → Type 0
      After k v = ((cached s k ≡ some v) × Views.Untouched (n ∷ []) s.rows k) ⊎ Views.SetBy (n ∷ []) to_cache s.rows k v

      -- the row that set a value had it staged
      had : (k : ℕ) (v : Value) (h : Views.SetBy (n ∷ []) to_cache s.rows k v) → row_at s h.place ≡ row h.number k h.kind (staged v)
      had k v h = h.is ∙ ap (row h.number k h.kind) (Views.to_cache_lem h.what v h.gives)

      value : (k : ℕ) (v : Value) → After k v → (v ≡ w.register k) ⊎ ((cached s k ≡ some v) × (Written s.rows w.wrote k → Written (map (free_if_of (n ∷ [])) s.rows) w.wrote k))
      value k v (inl h) = inr (h.0, written_unfreed (n ∷ []) s.rows w.wrote k (λ i m d u r did. h.1 i m d u r))
      value k v (inr h) = inl (rule h.place k h.kind v (had k v h ∙ ap (λ (x : ℕ). row x k h.kind (staged v)) (Views.mem-one h.number n h.among)))

      keeps : (k : ℕ) (v : Value) → RowOn (map (free_if_of (n ∷ [])) s.rows) k → After k v → cached s k ≡ some v
      keeps k v q (inl h) = h.0
      keeps k v q (inr h) = absurd (apart (g.orderly.alone h.place q.holds.place h.number q.number k h.kind q.holds.kind h.what q.holds.what h.is was.0))
        where
          was : (row_at s q.holds.place ≡ row q.number k q.holds.kind q.holds.what) × (mem q.number (n ∷ []) ≡ false)
          was = OrderlyKept.was_row (n ∷ []) s.rows q.holds.place q.number k q.holds.kind q.holds.what q.holds.is

          apart : (h.kind ≡ INVALIDATE) ⊎ (h.place ≡ q.holds.place) → ⊥
          apart (inl e) = g.orderly.plain h.place h.number k v (had k v h ∙ ap (λ (x : ℕ). row h.number k x (staged v)) e)
          apart (inr e) =
              let same : row h.number k h.kind h.what ≡ row q.number k q.holds.kind q.holds.what = sym h.is ∙ ap (row_at s) e ∙ was.0 in
              let who : h.number ≡ q.number = cc in
              clash (mem q.number (n ∷ [])) (rw who at h.among) was.1

  -- UNDO, by rule 3, ABORTED and LOST: the session has not written
  frame_leave : (a : Answer) (n : ℕ) → eqb (word_of a) LEASE ≡ false → w.wrote n ≡ false → Frame w a (leave (n ∷ []) w.state)
  frame_leave a n quiet never = frame_ends a (n ∷ []) w.state.keys quiet (λ k v p. (p, λ i m d u r did. spared m did)) (λ k l p. p)
    where
      spared : (m : ℕ) → w.wrote m ≡ true → mem m (n ∷ []) ≡ false
      spared m did = elim (case_of (mem m (n ∷ []))) [ inl q ↦ clash (w.wrote m) did (rw (Views.mem-one m n q) never) | inr q ↦ q ]

  -- an open session has not written
  unwrote : (n : ℕ) → free (session_of w.state n) ≡ false → sealed_in w.state n ≡ false → w.wrote n ≡ false
  unwrote n e f = elim (case_of (w.wrote n)) [
    | inl q ↦ (let r = Accepted.session_of_lem w.state n e in let life = (g.writers n q).1 (session_place w.state n) r.0 r.1 r.2 in clash true refl (rw life at (rw r.1 at f)))
    | inr q ↦ q
  ]

  -- FILL, by rule 1
  frame_fill : (t k : ℕ) (v : Value) (l : Lease) → lease_on w.state k ≡ some l → l.token ≡ t → ((fills w.state k v).answer ≡ Answer.Stored → Memᴰ v (w.since t k)) → Framed (fills w.state k v)
  unfolding fills
  frame_fill t k v l e q rule = frame_keys Answer.Stored (set w.state.keys k (record { value = some v; lease = none })) refl
      (λ j u p. elim (OrderlyKept.filled_value w.state k v j u p) [
        | inl x ↦ inl x
        | inr x ↦ inr (sym x.1 ∙ g.unwritten k l e v (rw q (rule refl)) ∙ ap w.register x.0, rw (← x.0) (no_row_on w.state g.orderly k l e))
      ])
      (OrderlyKept.filled_was w.state k v)

  frame_evict : (k : ℕ) → Frame w Answer.Evicted (with_keys w.state (set_value w.state.keys k none))
  frame_evict k = frame_keys Answer.Evicted (set_value w.state.keys k none) refl
      (λ j u p. inl (Views.unset_was (λ (x : Key). x.value) refl w.state.keys k _ refl j u p).1)
      (λ j h p. sym (Views.value_lease w.state.keys k none j) ∙ p)

  -- GET answered LEASE: the new token's record begins with the register's value
  frame_lease : (now k : ℕ) → Framed (leased w.state now k)
  unfolding leased
  frame_lease now k = record {
    keeps = λ j v p q. sym (Views.lease_value s.keys k (some new) j) ∙ p;
    value = λ j v p. inr (sym (Views.lease_value s.keys k (some new) j) ∙ p, λ q. q);
    opens = λ i x p. inr (x, p, refl, λ q. q);
    grows = omega arith;
    unwritten = λ j l p u m. fill j l u m (OrderlyKept.leased_was s k new j l p);
  }
    where
      s : State
      s = w.state

      new : Lease
      new = record { token = s.head.next_token; until = now + s.head.read_life }

      fill : (j : ℕ) (l : Lease) (u : Value) → Memᴰ u (since_grant w.register w.since (Answer.Lease s.head.next_token) l.token j) → (lease_on s j ≡ some l) ⊎ ((k ≡ j) × (new ≡ l)) → u ≡ w.register j
      fill j l u m (inl x) =
          let given = (g.orderly.leases j l x).0 in
          let old : eqb s.head.next_token l.token ≡ false = ne_eqb s.head.next_token l.token (λ q. omega arith) in
          g.unwritten j l x u (rw old at m)
      fill j l u m (inr x) =
          let mine : eqb s.head.next_token l.token ≡ true = eq-eqb s.head.next_token l.token (ap (λ (z : Lease). z.token) x.1) in
          Memᴰ.eq_of_singleton (rw mine at m)

  -- BEGIN: the new session has the next number
  frame_begin : (now : ℕ) → Framed (begins w.state now)
  unfolding begins
  frame_begin now = frame_sessions (begins w.state now).answer (begins w.state now).after.head (begins w.state now).after.sessions refl (omega arith) (OrderlyKept.begun_stood w.state now)

  -- QUAR granted: every row and value stays
  frame_granted : (n k kind : ℕ) → Frame w Answer.Granted (with_keys (with_rows w.state (put_at free_row (row n k kind nothing) w.state.rows)) (set_lease w.state.keys k none))
  frame_granted n k kind = record {
    keeps = λ j v p q. sym (Views.lease_value s.keys k none j) ∙ p;
    value = λ j v p. inr (
      sym (Views.lease_value s.keys k none j) ∙ p,
      written_still s.rows (put_at free_row (row n k kind nothing) s.rows) w.wrote j (λ i m d u e did. (u, OrderlyKept.still_put free_row s.rows (row n k kind nothing) i no_row (row m j d u) refl refl e)),
    );
    opens = λ i x p. inr (x, p, refl, λ q. q);
    grows = omega arith;
    unwritten = λ j l p u m. g.unwritten j l (OrderlyKept.voided_was s k j l p).1 u m;
  }
    where
      s : State
      s = w.state

  -- STAGE, DELTA
  frame_staged : (n k : ℕ) (u : Staged) → Frame w (staged_answer u) (with_staged (with_session w.state n advanced) n k u)
  frame_staged n k u = record {
    keeps = λ j y p q. p;
    value = λ j y p. inr (p, written_still w.state.rows (with_staged w.state n k u).rows w.wrote j (λ i m d v e did. OrderlyKept.still_staged w.state n k u i m j d v e));
    opens = OrderlyKept.slot_stood w.state n advanced (λ m. (refl, λ q. q));
    grows = omega arith;
    unwritten = λ j l p y m. g.unwritten j l p y (rw (staged_quiet u) at m);
  }

  -- VALIDATE
  frame_seal : (n : ℕ) → Frame w Answer.Validated (with_session w.state n sealed)
  frame_seal n = frame_sessions Answer.Validated w.state.head (with_session w.state n sealed).sessions refl (omega arith) (OrderlyKept.slot_stood w.state n sealed (λ m. (refl, λ q. refl)))

  -- Each accepted command

  frame_get : (now n k : ℕ) (o : Option Sight) → Framed (looked w.state now n k o)
  unfolding looked missed
  frame_get now n k (some x) = frame_kept (Answer.Hit x.at _) refl
  frame_get now n k none = if_ind Framed (free_row (row_of w.state n k))
      (λ e. if_ind Framed (blocked w.state k) (λ b. frame_kept (Answer.Backoff (wait w.state k now)) refl) (λ b. frame_lease now k))
      (λ e. frame_kept Answer.Ask refl)

  frame_quar : (n k kind : ℕ) → w.wrote n ≡ false → Framed (asks w.state n k kind)
  unfolding asks
  frame_quar n k kind never = if_ind Framed (grants (decide w.state k kind)) (λ e. frame_granted n k kind) (λ e. frame_leave Answer.Aborted n refl never)

  frame_stages : (n i k : ℕ) (u : Staged) → Framed (stages w.state n i k u)
  unfolding stages
  frame_stages n i k u = if_ind Framed (ltb i (count_of w.state n)) (λ p. frame_kept Answer.Repeated refl) (λ p. frame_staged n k u)

  pub framed : (now : ℕ) (c : Command) (v : Value) → refusal w.state now c v ≡ none → Rules w c v (effect w.state now c v).answer → Framed (effect w.state now c v)
  unfolding effect refusals
  framed now Begin v e rule = frame_begin now
  framed now (Get n k) v e rule = frame_get now n k (sight w.state n k)
  framed now (Fill t k) v e rule = if_ind (λ (r : Outcome). (r.answer ≡ Answer.Stored → Memᴰ v (w.since t k)) → Framed r) (matches t (lease_on w.state k))
      (λ m rule. let r = Accepted.matched t (lease_on w.state k) m in frame_fill t k v r.0 r.1 r.2 rule) (λ m rule. frame_kept Answer.Ignored refl) rule
  framed now (Quar n k kind) v e rule = let no = Accepted.passed w.state now (Quar n k kind) v e in
      if_ind Framed (eqb (kind_of (row_of w.state n k)) kind) (λ m. frame_kept Answer.Held refl) (λ m. frame_quar n k kind (unwrote n (no 2) (no 3)))
  framed now (Stage n i k) v e rule = frame_stages n i k (staged v)
  framed now (Delta n i k o) v e rule = frame_stages n i k (changed o v (staged_in (row_of w.state n k)) (cached w.state k))
  framed now (Validate n m) v e rule = let no = Accepted.passed w.state now (Validate n m) v e in if_ind Framed (eqb m (count_of w.state n))
      (λ p. frame_seal n) (λ p. frame_leave Answer.Lost n refl (unwrote n (no 2) (sym (and-true (sealed_in w.state n)) ∙ rw p at (no 3))))
  framed now (Done n) v e rule = frame_done n (rule refl)
  framed now (Undo n) v e rule = frame_leave Answer.Undone n refl (rule refl)
  framed now (Evict k) v e rule = if_ind Framed (is_none (cached w.state k)) (λ p. frame_kept Answer.Empty refl) (λ p. frame_evict k)
  framed now Tick v e rule = frame_kept Answer.Ticked refl
