-- Each change of a state keeps it well formed: an entry of a changed table stood at its place before, or is the new one, which fits;
-- and a row's session is still live, since a session ends only together with its rows.
use Rattle.std.specs.Prelude.{if◌then◌else◌}
use mathlib.Core.Path.{◌≡◌, refl, sym, ap, ◌∙◌, subst}
use mathlib.Core.Bool.{Bool, true, false}
use mathlib.Core.Logic.{◌⊎◌, inl, inr}
use mathlib.Core.List.{List, [], ◌∷◌, map}
use mathlib.Core.Option.{Option, none, some}
use Prim.Native.Nat.{ℕ, ◌+◌, ◌≤◌, ◌<◌}
use native.Mathlib.Omega.{arith}
use lib.ListN.{length, get_or, set, length-set, length-map, get_or-map}
use Rattle.lent.proofs.Choices.{zero_one}
use Rattle.machine.specs.Sizes.{key_count, step_max, time_max, number_max}
use Rattle.machine.specs.Tables.{place, mem, put_at}
use Rattle.machine.specs.Session.{opened, advanced, sealed, is_due}
use Rattle.machine.specs.State.{Value, Lease, Key, blank, no_session, session, Staged, nothing, staged, Row, no_row, row, State, free, free_row, session_place, session_of, row_place, row_of, session_at, row_at, cached, lease_on}
use Rattle.machine.specs.Expiry.{with_keys, with_rows, with_clock, set_value, set_lease, free_if_of, free_session, settle, leave, finish, lapsed_value, lapsed_lease, those, expire}
use Rattle.machine.specs.Effects.{begins, leased, fills, to_cache, on_slot, restaged, with_session, with_staged}
use Rattle.machine.specs.WellFormed.{Fine, LeaseFits, SessionFits, StagedFits, RowFits, LiveAs, WellFormed, Orderly, Within}
use Rattle.machine.specs.Words.{INVALIDATE, INCREMENTAL}
use Rattle.machine.specs.declared.Session.{Session}
use Rattle.machine.proofs.Views
use Rattle.machine.proofs.OrderlyKept

-- time passes
pub well_later : (s : State) (a b : ℕ) → a ≤ b → b ≤ time_max → WellFormed s a → WellFormed s b
well_later s a b q t h = record {
  orderly = h.orderly;
  head = record { time = t; read_life = h.head.read_life; write_life = h.head.write_life; next_session = h.head.next_session; next_token = h.head.next_token };
  keys = record {
    length = h.keys.length;
    values = h.keys.values;
    leases = λ k e. let x = h.keys.leases k e in record { positive = x.positive; deadline = omega (arith, x.deadline) };
    distinct = h.keys.distinct;
  };
  sessions = record { length = h.sessions.length; each = λ i e. let x = h.sessions.each i e in record { positive = x.positive; steps = x.steps; deadline = λ u p. omega (arith, x.deadline u p) } };
  rows = h.rows;
  live = h.live;
}

-- the clock is set to that time
pub well_clock : (s : State) (now : ℕ) → WellFormed s now → WellFormed (with_clock s now) now
well_clock s now h =
    let x = h.head in
    record {
      orderly = OrderlyKept.orderly_clock s now h.orderly;
      head = record { time = x.time; read_life = x.read_life; write_life = x.write_life; next_session = x.next_session; next_token = x.next_token };
      keys = h.keys;
      sessions = h.sessions;
      rows = h.rows;
      live = h.live;
    }

settle-length : (ns : List ℕ) (f : Staged → Option Value) (rs : List Row) (ks : List Key) → length (settle ns f rs ks) ≡ length ks
settle-length ns f [] ks = refl
settle-length ns f (no_row ∷ rs) ks = settle-length ns f rs ks
settle-length ns f (row m j d u ∷ rs) ks = go (mem m ns) (settle-length ns f rs)
  where
    go : (b : Bool) → ((ks' : List Key) → length (settle ns f rs ks') ≡ length ks') → length (settle ns f rs (if b then set_value ks j (f u) else ks)) ≡ length ks
    go true r = r (set_value ks j (f u)) ∙ length-set ks j _
    go false r = r ks

module _ (s : State) (now : ℕ) (h : WellFormed s now) where
  -- the keys change: each value fits, each lease was there
  well_keys : (ks : List Key) → length ks ≡ length s.keys → ((k : ℕ) (v : Value) → (get_or ks k blank).value ≡ some v → Fine v)
      → OrderlyKept.LeasesFrom ks s → WellFormed (with_keys s ks) now
  well_keys ks n fv fl = record {
    orderly = OrderlyKept.orderly_keys s ks (λ k l p. inl (fl k l p)) h.orderly;
    head = h.head;
    keys = record {
      length = n ∙ h.keys.length;
      values = λ k {v} e. fv k v e;
      leases = λ k {l} e. h.keys.leases k (fl k l e);
      distinct = λ k j {l} {m} e f q. h.keys.distinct k j (fl k l e) (fl j m f) q;
    };
    sessions = h.sessions;
    rows = h.rows;
    live = h.live;
  }

  pub well_fill : (k : ℕ) (v : Value) → Fine v → WellFormed (fills s k v).after now
  unfolding fills
  well_fill k v fv = well_keys (set s.keys k (record { value = some v; lease = none })) (length-set s.keys k _)
      (λ j u p. elim (OrderlyKept.filled_value s k v j u p) [ inl q ↦ h.keys.values j q | inr q ↦ subst Fine q.1 fv ]) (OrderlyKept.filled_was s k v)

  pub well_evict : (k : ℕ) → WellFormed (with_keys s (set_value s.keys k none)) now
  well_evict k = well_keys (set_value s.keys k none) (length-set s.keys k _)
      (λ j u p. h.keys.values j (Views.unset_was (λ (x : Key). x.value) refl s.keys k _ refl j u p).1)
      (λ j l p. sym (Views.value_lease s.keys k none j) ∙ p)

  -- sessions end with their rows
  pub well_leave : (ns : List ℕ) → WellFormed (leave ns s) now
  unfolding leave
  well_leave ns = record {
    orderly = OrderlyKept.orderly_leave s ns h.orderly;
    head = h.head;
    keys = h.keys;
    sessions = record { length = length-map s.sessions (free_session ns) ∙ h.sessions.length; each = λ i {x} e. h.sessions.each i (OrderlyKept.was_session ns s.sessions i x e).0 };
    rows = record {
      length = length-map s.rows (free_if_of ns) ∙ h.rows.length;
      each = λ i {n} {k} {d} {u} e. h.rows.each i (OrderlyKept.was_row ns s.rows i n k d u e).0;
      once = λ i j {n} {k} {d} {c} {u} {v} e f. h.rows.once i j (OrderlyKept.was_row ns s.rows i n k d u e).0 (OrderlyKept.was_row ns s.rows j n k c v f).0;
    };
    live = λ i {n} {k} {d} {u} e. let r = OrderlyKept.was_row ns s.rows i n k d u e in let x = h.live i r.0 in
        record { place = x.place; live = x.live; number = x.number; is = get_or-map (free_session ns) s.sessions x.place no_session ∙ rw (x.is, x.number, r.1) refl };
  }

-- and the values of their keys become what f says, which fits if what was staged does
pub well_finish : (s : State) (now : ℕ) (ns : List ℕ) (f : Staged → Option Value) → ((d : ℕ) (u : Staged) (v : Value) → StagedFits d u → f u ≡ some v → Fine v) → WellFormed s now → WellFormed (finish ns f s) now
unfolding finish
well_finish s now ns f good h = well_leave (with_keys s ks) now
    (well_keys s now h ks (settle-length ns f s.rows s.keys) (λ k v e. value k v (Views.settle_value ns f k v s.rows s.keys e)) (λ k l e. sym (Views.settle_lease ns f k s.rows s.keys) ∙ e)) ns
  where
    ks : List Key
    ks = settle ns f s.rows s.keys

    value : (k : ℕ) (v : Value) → ((cached s k ≡ some v) × Views.Untouched ns s.rows k) ⊎ Views.SetBy ns f s.rows k v → Fine v
    value k v (inl x) = h.keys.values k x.0
    value k v (inr x) = good x.kind x.what v (h.rows.each x.place x.is).what x.gives

pub well_expire : (s : State) (now at : ℕ) → WellFormed s at → WellFormed (expire now s) at
unfolding expire
well_expire s now at h = well_finish (with_keys s ks) at (those (is_due now) s.sessions) lapsed_value (λ d u v p e. Views.no_some v e)
    (well_keys s at h ks (length-map s.keys (lapsed_lease now)) (λ k v e. h.keys.values k (sym (ap (λ (x : Key). x.value) (get_or-map (lapsed_lease now) s.keys k blank)) ∙ e)) (λ k l e. (OrderlyKept.lapsed_was s now k l e).0))
  where
    ks : List Key
    ks = map (lapsed_lease now) s.keys

-- DONE caches what was staged
pub to_cache_fine : (d : ℕ) (u : Staged) (v : Value) → StagedFits d u → to_cache u ≡ some v → Fine v
to_cache_fine d u v p e = let q : StagedFits d (staged v) = rw (Views.to_cache_lem u v e) at p in q.1

module _ (s : State) (now : ℕ) (h : WellFormed s now) where
  -- GET answered LEASE, on a key with no row
  pub well_leased : (k : ℕ) → s.head.next_token < number_max → ((i n d : ℕ) (v : Staged) → row_at s i ≡ row n k d v → ⊥) → WellFormed (leased s now k).after now
  unfolding leased
  well_leased k room unheld = record {
    orderly = OrderlyKept.orderly_leased s now k unheld h.orderly;
    head = record { time = h.head.time; read_life = h.head.read_life; write_life = h.head.write_life; next_session = h.head.next_session; next_token = (omega (arith, h.head.next_token.0), room) };
    keys = record {
      length = length-set s.keys k _ ∙ h.keys.length;
      values = λ j p. h.keys.values j (sym (Views.lease_value s.keys k (some (OrderlyKept.next_lease s now)) j) ∙ p);
      leases = λ j {l} p. fits j l (OrderlyKept.leased_was s k (OrderlyKept.next_lease s now) j l p);
      distinct = λ i j {l} {m} p q. OrderlyKept.next_alone (λ (x : Lease). x.token) s.head.next_token k (λ j l. lease_on s j ≡ some l) (λ l. OrderlyKept.next_lease s now ≡ l) (λ j l p. (h.orderly.leases j l p).0) (λ l e. sym (ap (λ (x : Lease). x.token) e))
          (λ i j l m p q. h.keys.distinct i j p q) i j l m (OrderlyKept.leased_was s k (OrderlyKept.next_lease s now) i l p) (OrderlyKept.leased_was s k (OrderlyKept.next_lease s now) j m q);
    };
    sessions = h.sessions;
    rows = h.rows;
    live = h.live;
  }
    where
      fits : (j : ℕ) (l : Lease) → (lease_on s j ≡ some l) ⊎ ((k ≡ j) × (OrderlyKept.next_lease s now ≡ l)) → LeaseFits (now + s.head.read_life) l
      fits j l (inl p) = h.keys.leases j p
      fits j l (inr p) = subst (LeaseFits (now + s.head.read_life)) p.1 (record { positive = h.head.next_token.0; deadline = omega arith })

  -- BEGIN
  pub well_begin : s.head.next_session < number_max → WellFormed (begins s now).after now
  unfolding begins
  well_begin room = record {
    orderly = OrderlyKept.orderly_begin s now h.orderly;
    head = record { time = h.head.time; read_life = h.head.read_life; write_life = h.head.write_life; next_session = (omega (arith, h.head.next_session.0), room); next_token = h.head.next_token };
    keys = h.keys;
    sessions = record {
      length = length-set s.sessions at (session new) ∙ h.sessions.length;
      each = λ i {x} e. elim (OrderlyKept.was_set s.sessions at (session new) i no_session (session x) (Views.no_session_lem x) e) [ inl p ↦ h.sessions.each i p | inr p ↦ (let q : new ≡ x = cc in subst (SessionFits (now + s.head.write_life)) q fits) ];
    };
    rows = h.rows;
    live = λ i e. let x = h.live i e in record { place = x.place; live = x.live; number = x.number; is = OrderlyKept.still_put free s.sessions (session new) x.place no_session (session x.live) refl refl x.is };
  }
    where
      new : Session
      new = opened s.head.next_session (now + s.head.write_life)

      at : ℕ
      at = place free s.sessions

      fits : SessionFits (now + s.head.write_life) new
      fits = record { positive = h.head.next_session.0; steps = omega arith; deadline = λ t p. let q : now + s.head.write_life ≡ t = cc in omega arith }

  -- the session of number n is put through f, which keeps its number
  well_session : (n : ℕ) (f : Session → Session) → ((x : Session) → (f x).number ≡ x.number)
      → ((i : ℕ) (x : Session) → session_at s i ≡ session x → x.number ≡ n → SessionFits (now + s.head.write_life) (f x)) → WellFormed (with_session s n f) now
  well_session n f same fits = record {
    orderly = OrderlyKept.orderly_session s n f same h.orderly;
    head = h.head;
    keys = h.keys;
    sessions = record { length = length-set s.sessions (session_place s n) (on_slot f (session_of s n)) ∙ h.sessions.length; each = λ i {x} e. each i x (OrderlyKept.was_slot s n f i x e) };
    rows = h.rows;
    live = λ i {n = m} e. alive m (h.live i e);
  }
    where
      each : (i : ℕ) (x : Session) → (m : Session) × (session_at s i ≡ session m) × ((x ≡ m) ⊎ ((m.number ≡ n) × (x ≡ f m))) → SessionFits (now + s.head.write_life) x
      each i x r = elim r.2 [ inl p ↦ rw p (h.sessions.each i r.1) | inr p ↦ rw p.1 (fits i r.0 r.1 p.0) ]

      alive : (m : ℕ) → LiveAs s.sessions m → LiveAs (with_session s n f).sessions m
      alive m x = elim (OrderlyKept.still_set s.sessions (session_place s n) (on_slot f (session_of s n)) x.place no_session (session x.live) (Views.no_session_lem x.live) x.is) [
        | inl p ↦ record { place = x.place; live = x.live; is = p; number = x.number }
        | inr p ↦ record { place = x.place; live = f x.live; is = p.1 ∙ ap (on_slot f) (ap (session_at s) p.0 ∙ x.is); number = same x.live ∙ x.number }
      ]

  -- VALIDATE
  pub well_seal : (n : ℕ) → WellFormed (with_session s n sealed) now
  well_seal n = well_session n sealed (λ x. refl) (λ i x e q. let y = h.sessions.each i e in
      record { positive = y.positive; steps = y.steps; deadline = λ t p. zero_one cc })

  -- QUAR granted: to a live session with no row on the key
  pub well_granted : (n k kind : ℕ) → k < key_count → Within INVALIDATE INCREMENTAL kind → LiveAs s.sessions n → ((i d : ℕ) (v : Staged) → row_at s i ≡ row n k d v → ⊥)
      → ((i m d : ℕ) (v : Staged) → row_at s i ≡ row m k d v → (kind ≡ INVALIDATE) × (d ≡ INVALIDATE))
      → WellFormed (with_keys (with_rows s (put_at free_row (row n k kind nothing) s.rows)) (set_lease s.keys k none)) now
  well_granted n k kind small range alive unheld sharing = record {
    orderly = OrderlyKept.orderly_granted s n k kind range sharing h.orderly;
    head = h.head;
    keys = record {
      length = length-set s.keys k _ ∙ h.keys.length;
      values = λ j p. h.keys.values j (sym (Views.lease_value s.keys k none j) ∙ p);
      leases = λ j {l} p. h.keys.leases j (OrderlyKept.voided_was s k j l p).1;
      distinct = λ i j {l} {m} p q e. h.keys.distinct i j (OrderlyKept.voided_was s k i l p).1 (OrderlyKept.voided_was s k j m q).1 e;
    };
    sessions = h.sessions;
    rows = record {
      length = length-set s.rows (place free_row s.rows) (row n k kind nothing) ∙ h.rows.length;
      each = λ i {n = m} {k = j} {d} {u} e. elim (OrderlyKept.granted_was s n k kind i m j d u e) [ inl p ↦ h.rows.each i p | inr p ↦ record { key = rw p.2 small; what = rw p.4 tt } ];
      once = λ i j {n = m} {k = q} {d} {c} {u} {v} e f. two i j m q d c u v (OrderlyKept.granted_was s n k kind i m q d u e) (OrderlyKept.granted_was s n k kind j m q c v f);
    };
    live = λ i {n = m} {k = j} {d} {u} e. elim (OrderlyKept.granted_was s n k kind i m j d u e) [ inl p ↦ h.live i p | inr p ↦ rw p.1 alive ];
  }
    where
      two : (i j m q d c : ℕ) (u v : Staged) → OrderlyKept.GrantedWas s n k kind i m q d u → OrderlyKept.GrantedWas s n k kind j m q c v → i ≡ j
      two i j m q d c u v (inl x) (inl y) = h.rows.once i j x y
      two i j m q d c u v (inl x) (inr y) = absurd (unheld i d u (rw (y.1, y.2) at x))
      two i j m q d c u v (inr x) (inl y) = absurd (unheld j c v (rw (x.1, x.2) at y))
      two i j m q d c u v (inr x) (inr y) = sym x.0 ∙ y.0

  -- what is staged in the row of session n on key k becomes u, which fits its kind
  well_restaged : (n k : ℕ) (u : Staged) → ((i d : ℕ) (v : Staged) → row_at s i ≡ row n k d v → StagedFits d u) → Orderly (with_staged s n k u) → WellFormed (with_staged s n k u) now
  well_restaged n k u fits o = record {
    orderly = o;
    head = h.head;
    keys = h.keys;
    sessions = h.sessions;
    rows = record {
      length = length-set s.rows (row_place s n k) (restaged u (row_of s n k)) ∙ h.rows.length;
      each = λ i {n = m} {k = j} {d} {u = v} e. each i m j d v (OrderlyKept.was_staged s n k u i m j d v e);
      once = λ i j {n = m} {k = q} {d} {c} {u = v} {v = w} e f. h.rows.once i j (OrderlyKept.was_staged s n k u i m q d v e).1 (OrderlyKept.was_staged s n k u j m q c w f).1;
    };
    live = λ i {n = m} {k = j} {d} {u = v} e. h.live i (OrderlyKept.was_staged s n k u i m j d v e).1;
  }
    where
      each : (i m j d : ℕ) (v : Staged) → (v' : Staged) × (row_at s i ≡ row m j d v') × ((v ≡ v') ⊎ ((m ≡ n) × (j ≡ k) × (v ≡ u))) → RowFits j d v
      each i m j d v r = let x = h.rows.each i r.1 in
          record { key = x.key; what = elim r.2 [ inl p ↦ rw p x.what | inr p ↦ rw p.2 (fits i d r.0 (rw (p.0, p.1) at r.1)) ] }

-- STAGE and DELTA: the session's count has room, and its row on the key, which is no invalidation, takes u
pub well_staged : (s : State) (now : ℕ) (h : WellFormed s now) (n k i d : ℕ) (u v : Staged) → row_at s i ≡ row n k d v → (d ≡ INVALIDATE → ⊥) → StagedFits d u
    → ((j : ℕ) (x : Session) → session_at s j ≡ session x → x.number ≡ n → x.count < step_max) → WellFormed (with_staged (with_session s n advanced) n k u) now
well_staged s now h n k i d u v mine apart fits room = well_restaged (with_session s n advanced) now stepped n k u same (OrderlyKept.orderly_staged s n k i d u v mine apart h.orderly)
  where
    stepped : WellFormed (with_session s n advanced) now
    stepped = well_session s now h n advanced (λ x. refl) (λ j x e q. let y = h.sessions.each j e in record { positive = y.positive; steps = omega (arith, room j x e q); deadline = y.deadline })

    same : (j c : ℕ) (w : Staged) → row_at s j ≡ row n k c w → StagedFits c u
    same j c w e =
        let p : i ≡ j = h.rows.once i j mine e in
        let q : row n k d v ≡ row n k c w = sym mine ∙ ap (row_at s) p ∙ e in
        let r : c ≡ d = cc in
        rw r fits
