-- The shape of the tables that every command keeps, under no rule of the clients: tokens and session numbers were given,
-- session numbers differ, no row is on a leased key, only invalidations share a key, a row has one of the three kinds, and one that
-- invalidates stages nothing.
-- Each law reads every entry of the new tables back to the one that stood at its place before.
use mathlib.Core.Path.{◌≡◌, refl, sym, ap, ◌∙◌}
use mathlib.Core.Bool.{Bool, true, false}
use mathlib.Core.Logic.{◌⊎◌, inl, inr}
use mathlib.Core.List.{List, map}
use mathlib.Core.Option.{Option, none, some}
use Prim.Native.Nat.{ℕ, suc, ◌+◌, ◌≤◌, ◌<◌}
use native.Mathlib.Omega.{arith}
use borrow.Author.Tests.{eqb-true}
use lib.ListN.{get_or, set, get_or-map}
use Rattle.lent.proofs.Choices.{clash, zero_one}
use Rattle.machine.specs.Tables.{place, find, mem, put_at}
use Rattle.machine.specs.Session.{opened, advanced, sealed, is_due}
use Rattle.machine.specs.State.{Value, Lease, Key, blank, Slot, no_session, session, Staged, nothing, staged, Row, no_row, row, State, fresh, free, free_row, numbered, of_on, row_of, cached, lease_on, session_at, row_at}
use Rattle.machine.specs.Expiry.{with_keys, with_sessions, with_rows, with_clock, set_value, set_lease, free_if_of, free_session, settle, leave, finish, lapsed_value, lapsed_lease, those, expire}
use Rattle.machine.specs.Effects.{begins, leased, fills, on_slot, restaged, with_session, with_staged}
use Rattle.machine.specs.WellFormed.{Orderly, Within}
use Rattle.machine.specs.Words.{INVALIDATE, INCREMENTAL}
use Rattle.machine.specs.declared.Life.{Life}
use Rattle.machine.specs.declared.Session.{Session}
use Rattle.machine.proofs.Views

-- One place set

module _ {A : Type 0} (l : List A) (i : ℕ) (a : A) (j : ℕ) (d b : A) (entry : d ≡ b → ⊥) where
  -- an entry after `set` stood there before, or was set
  pub was_set : get_or (set l i a) j d ≡ b → (get_or l j d ≡ b) ⊎ ((i ≡ j) × (a ≡ b))
  was_set e = elim (Views.was_part (λ (x : A). x) l i a j d b entry e) [ inl p ↦ inl p.1 | inr p ↦ inr p ]

  -- an entry before `set` still stands there, or is replaced
  pub still_set : get_or l j d ≡ b → (get_or (set l i a) j d ≡ b) ⊎ ((i ≡ j) × (get_or (set l i a) j d ≡ a))
  still_set e = go (Views.after-set l i a j d)
    where
      go : Views.AfterSet l i a j d → (get_or (set l i a) j d ≡ b) ⊎ ((i ≡ j) × (get_or (set l i a) j d ≡ a))
      go (Views.other p q) = inl (q ∙ e)
      go (Views.here p q) = inr (p, q)
      go (Views.out p q r) = absurd (entry (sym r ∙ e))

-- an entry before `put_at` still stands there: the place taken was free
pub still_put : {A : Type 0} (p : A → Bool) (l : List A) (a : A) (j : ℕ) (d b : A) → p d ≡ true → p b ≡ false → get_or l j d ≡ b → get_or (put_at p a l) j d ≡ b
still_put p l a j d b free taken e = elim (still_set l (place p l) a j d b (λ q. clash (p b) (sym (ap p q) ∙ free) taken) e) [
  | inl q ↦ q
  | inr q ↦ clash (p b) (sym (ap p (ap (λ (i : ℕ). get_or l i d) q.0 ∙ e)) ∙ Views.free-place p d l free) taken
]

-- an entry after the first that passes p was put through f: as it was, or f of one that passes
was_changed : {A : Type 0} (p : A → Bool) (f : A → A) (l : List A) (i : ℕ) (d b : A) → f d ≡ d → (d ≡ b → ⊥) → get_or (set l (place p l) (f (find p d l))) i d ≡ b → (get_or l i d ≡ b) ⊎ ((p (get_or l i d) ≡ true) × (f (get_or l i d) ≡ b))
was_changed p f l i d b fixed entry e = elim (was_set l (place p l) (f (find p d l)) i d b entry e) [
  | inl q ↦ inl q
  | inr q ↦ elim (Views.find_test p d l) [
    | inl z ↦ absurd (entry (sym fixed ∙ sym (ap f z) ∙ q.1))
    | inr z ↦ (let there : find p d l ≡ get_or l i d = ap (λ (j : ℕ). get_or l j d) q.0 in inr (sym (ap p there) ∙ z, sym (ap f there) ∙ q.1))
  ]
]

-- a session after one was put through f: as it was, or f of it
pub was_slot : (s : State) (n : ℕ) (f : Session → Session) (i : ℕ) (x : Session) → session_at (with_session s n f) i ≡ session x
    → (m : Session) × (session_at s i ≡ session m) × ((x ≡ m) ⊎ ((m.number ≡ n) × (x ≡ f m)))
was_slot s n f i x e = elim (was_changed (numbered n) (on_slot f) s.sessions i no_session (session x) refl (Views.no_session_lem x) e) [
  | inl h ↦ (x, h, inl refl)
  | inr h ↦ mine (session_at s i) refl h.0 h.1
]
  where
    mine : (y : Slot) → session_at s i ≡ y → numbered n y ≡ true → on_slot f y ≡ session x → (m : Session) × (session_at s i ≡ session m) × ((x ≡ m) ⊎ ((m.number ≡ n) × (x ≡ f m)))
    mine no_session p q h = Views.no_session_lem x h
    mine (session m) p q h = (m, p, inr (eqb-true m.number n q, cc))

-- a session at place i of a later state: its number is new, or it stood there, and stays sealed if it was
abbrev pub StoodAt : State → ℕ → Session → Type 0
StoodAt s i x = (s.head.next_session ≤ x.number) ⊎ ((m : Session) × (session_at s i ≡ session m) × (m.number ≡ x.number) × (m.life ≡ Life.Sealed → x.life ≡ Life.Sealed))

-- one that is put through f, which keeps its number and its seal, stands where it stood
pub slot_stood : (s : State) (n : ℕ) (f : Session → Session) → ((m : Session) → ((f m).number ≡ m.number) × (m.life ≡ Life.Sealed → (f m).life ≡ Life.Sealed)) → (i : ℕ) (x : Session) → session_at (with_session s n f) i ≡ session x → StoodAt s i x
slot_stood s n f same i x p =
    let r = was_slot s n f i x p in
    inr (
      r.0,
      r.1,
      elim r.2 [ inl e ↦ sym (ap (λ (y : Session). y.number) e) | inr e ↦ sym (same r.0).0 ∙ sym (ap (λ (y : Session). y.number) e.1) ],
      λ q. elim r.2 [ inl e ↦ ap (λ (y : Session). y.life) e ∙ q | inr e ↦ ap (λ (y : Session). y.life) e.1 ∙ (same r.0).1 q ],
    )

pub begun_stood : (s : State) (now i : ℕ) (x : Session) → session_at (begins s now).after i ≡ session x → StoodAt s i x
unfolding begins
begun_stood s now i x p = elim (was_set s.sessions (place free s.sessions) (session (opened s.head.next_session (now + s.head.write_life))) i no_session (session x) (Views.no_session_lem x) p) [
  | inl e ↦ inr (x, e, refl, λ q. q)
  | inr e ↦ inl (let y = e.1 in let z : s.head.next_session ≡ x.number = cc in omega arith)
]

-- a row after u was staged in one: as it was, or with u
pub was_staged : (s : State) (n k : ℕ) (u : Staged) (i m j d : ℕ) (v : Staged) → row_at (with_staged s n k u) i ≡ row m j d v
    → (v' : Staged) × (row_at s i ≡ row m j d v') × ((v ≡ v') ⊎ ((m ≡ n) × (j ≡ k) × (v ≡ u)))
was_staged s n k u i m j d v e = elim (was_changed (of_on n k) (restaged u) s.rows i no_row (row m j d v) refl (Views.no_row_lem m j d v) e) [
  | inl h ↦ (v, h, inl refl)
  | inr h ↦ (let r = Views.of-on_row n k (row_at s i) h.0 in
      let here : row_at s i ≡ row n k r.0 r.1 = r.2 in
      let now : row n k r.0 u ≡ row m j d v = sym (ap (restaged u) here) ∙ h.1 in
      (r.1, cc, inr (cc, cc, cc)))
]

-- and each row is still there, with what is staged in it
pub still_staged : (s : State) (n k : ℕ) (u : Staged) (i m j d : ℕ) (v : Staged) → row_at s i ≡ row m j d v → (v' : Staged) × (row_at (with_staged s n k u) i ≡ row m j d v')
still_staged s n k u i m j d v e = go (still_set s.rows at (restaged u (row_of s n k)) i no_row (row m j d v) (Views.no_row_lem m j d v) e)
  where
    at : ℕ
    at = place (of_on n k) s.rows

    go : (row_at (with_staged s n k u) i ≡ row m j d v) ⊎ ((at ≡ i) × (row_at (with_staged s n k u) i ≡ restaged u (row_of s n k))) → (v' : Staged) × (row_at (with_staged s n k u) i ≡ row m j d v')
    go (inl h) = (v, h)
    go (inr h) = (u, h.1 ∙ ap (restaged u) (ap (row_at s) h.0 ∙ e))

-- Sessions ended

module _ (ns : List ℕ) where
  pub was_row : (rs : List Row) (i n k d : ℕ) (v : Staged) → get_or (map (free_if_of ns) rs) i no_row ≡ row n k d v → (get_or rs i no_row ≡ row n k d v) × (mem n ns ≡ false)
  was_row rs i n k d v e = Views.freed_was ns (get_or rs i no_row) n k d v (sym (get_or-map (free_if_of ns) rs i no_row) ∙ e)

  pub still_row : (rs : List Row) (i n k d : ℕ) (v : Staged) → get_or rs i no_row ≡ row n k d v → mem n ns ≡ false → get_or (map (free_if_of ns) rs) i no_row ≡ row n k d v
  still_row rs i n k d v e q = get_or-map (free_if_of ns) rs i no_row ∙ Views.not_freed ns (get_or rs i no_row) n k d v e q

  pub was_session : (l : List Slot) (i : ℕ) (x : Session) → get_or (map (free_session ns) l) i no_session ≡ session x → (get_or l i no_session ≡ session x) × (mem x.number ns ≡ false)
  was_session l i x e = Views.ended_was ns (get_or l i no_session) x (sym (get_or-map (free_session ns) l i no_session) ∙ e)

-- Values, leases and rows that are left

-- each lease of the keys ks is on its key in s
abbrev pub LeasesFrom : List Key → State → Type 0
LeasesFrom ks s = (k : ℕ) (l : Lease) → (get_or ks k blank).lease ≡ some l → lease_on s k ≡ some l

-- a lease that has not lapsed, and ends after now
pub lapsed_was : (s : State) (now k : ℕ) (l : Lease) → (get_or (map (lapsed_lease now) s.keys) k blank).lease ≡ some l → (lease_on s k ≡ some l) × (now < l.until)
lapsed_was s now k l e = Views.unlapsed_was now (lease_on s k) l (sym (ap (λ (x : Key). x.lease) (get_or-map (lapsed_lease now) s.keys k blank)) ∙ e)

-- a lease, once key k is filled
pub filled_was : (s : State) (k : ℕ) (v : Value) (j : ℕ) (l : Lease) → (get_or (set s.keys k (record { value = some v; lease = none })) j blank).lease ≡ some l → lease_on s j ≡ some l
filled_was s k v j l e = (Views.unset_was (λ (x : Key). x.lease) refl s.keys k _ refl j l e).1

-- a value, once key k is filled with v
pub filled_value : (s : State) (k : ℕ) (v : Value) (j : ℕ) (u : Value) → (get_or (set s.keys k (record { value = some v; lease = none })) j blank).value ≡ some u → (cached s j ≡ some u) ⊎ ((k ≡ j) × (v ≡ u))
filled_value s k v = Views.set_was (λ (x : Key). x.value) refl s.keys k _ v refl

-- a lease, once x is granted on key k
pub leased_was : (s : State) (k : ℕ) (x : Lease) (j : ℕ) (l : Lease) → (get_or (set_lease s.keys k (some x)) j blank).lease ≡ some l → (lease_on s j ≡ some l) ⊎ ((k ≡ j) × (x ≡ l))
leased_was s k x = Views.set_was (λ (y : Key). y.lease) refl s.keys k _ x refl

-- a lease, once that of key k is voided, is on another key
pub voided_was : (s : State) (k j : ℕ) (l : Lease) → (get_or (set_lease s.keys k none) j blank).lease ≡ some l → (k ≡ j → ⊥) × (lease_on s j ≡ some l)
voided_was s k = Views.unset_was (λ (x : Key). x.lease) refl s.keys k _ refl

-- a row, once one of session n on key k is granted
abbrev pub GrantedWas : State → (n k kind i m j d : ℕ) → Staged → Type 0
GrantedWas s n k kind i m j d v = (row_at s i ≡ row m j d v) ⊎ ((place free_row s.rows ≡ i) × (m ≡ n) × (j ≡ k) × (d ≡ kind) × (v ≡ nothing))

pub granted_was : (s : State) (n k kind i m j d : ℕ) (v : Staged) → get_or (put_at free_row (row n k kind nothing) s.rows) i no_row ≡ row m j d v → GrantedWas s n k kind i m j d v
granted_was s n k kind i m j d v e = elim (was_set s.rows (place free_row s.rows) (row n k kind nothing) i no_row (row m j d v) (Views.no_row_lem m j d v) e) [
  | inl p ↦ inl p
  | inr p ↦ (let q = p.1 in inr (p.0, cc, cc, cc, cc))
]

-- One table replaced

-- each lease stood before, or is as it must be
pub orderly_keys : (s : State) (ks : List Key)
    → ((k : ℕ) (l : Lease) → (get_or ks k blank).lease ≡ some l → (lease_on s k ≡ some l) ⊎ ((l.token < s.head.next_token) × ((i n d : ℕ) (v : Staged) → row_at s i ≡ row n k d v → ⊥)))
    → Orderly s → Orderly (with_keys s ks)
orderly_keys s ks f h = record {
  leases = λ k l e. elim (f k l e) [ inl p ↦ h.leases k l p | inr p ↦ p ];
  numbers = h.numbers;
  unique = h.unique;
  kinds = h.kinds;
  alone = h.alone;
  plain = h.plain;
}

-- each session stood at its place with its number
orderly_sessions : (s : State) (l : List Slot)
    → ((i : ℕ) (x : Session) → get_or l i no_session ≡ session x → (m : Session) × (session_at s i ≡ session m) × (m.number ≡ x.number))
    → Orderly s → Orderly (with_sessions s l)
orderly_sessions s l f h = record {
  leases = h.leases;
  numbers = λ i x e. let r = f i x e in rw (← r.2) (h.numbers i r.0 r.1);
  unique = λ i j x y e e' q. let r = f i x e in let t = f j y e' in h.unique i j r.0 t.0 r.1 t.1 (r.2 ∙ q ∙ sym t.2);
  kinds = h.kinds;
  alone = h.alone;
  plain = h.plain;
}

-- each row stood at its place with its session, key and kind, and an invalidation with what it stages
orderly_rows : (s : State) (rs : List Row)
    → ((i n k d : ℕ) (v : Staged) → get_or rs i no_row ≡ row n k d v → (u : Staged) × (row_at s i ≡ row n k d u) × (d ≡ INVALIDATE → v ≡ u))
    → Orderly s → Orderly (with_rows s rs)
orderly_rows s rs f h = record {
  leases = λ k l e. ((h.leases k l e).0, λ i n d v p. let r = f i n k d v p in (h.leases k l e).1 i n d r.0 r.1);
  numbers = h.numbers;
  unique = h.unique;
  kinds = λ i n k d v e. let r = f i n k d v e in h.kinds i n k d r.0 r.1;
  alone = λ i j n m k d c u v e e'. let r = f i n k d u e in let t = f j m k c v e' in h.alone i j n m k d c r.0 t.0 r.1 t.1;
  plain = λ i n k v e. let r = f i n k INVALIDATE (staged v) e in h.plain i n k v (r.1 ∙ ap (row n k INVALIDATE) (sym (r.2 refl)));
}

-- Each change of a state

pub orderly_clock : (s : State) (now : ℕ) → Orderly s → Orderly (with_clock s now)
orderly_clock s now h = record { leases = h.leases; numbers = h.numbers; unique = h.unique; kinds = h.kinds; alone = h.alone; plain = h.plain }

pub orderly_leave : (s : State) (ns : List ℕ) → Orderly s → Orderly (leave ns s)
unfolding leave
orderly_leave s ns h = orderly_sessions (with_rows s (map (free_if_of ns) s.rows)) (map (free_session ns) s.sessions) (λ i x e. (x, (was_session ns s.sessions i x e).0, refl))
    (orderly_rows s (map (free_if_of ns) s.rows) (λ i n k d v e. (v, (was_row ns s.rows i n k d v e).0, λ q. refl)) h)

pub orderly_finish : (s : State) (ns : List ℕ) (f : Staged → Option Value) → Orderly s → Orderly (finish ns f s)
unfolding finish
orderly_finish s ns f h = orderly_leave (with_keys s (settle ns f s.rows s.keys)) ns
    (orderly_keys s (settle ns f s.rows s.keys) (λ k l p. inl (sym (Views.settle_lease ns f k s.rows s.keys) ∙ p)) h)

pub orderly_expire : (s : State) (now : ℕ) → Orderly s → Orderly (expire now s)
unfolding expire
orderly_expire s now h = orderly_finish (with_keys s (map (lapsed_lease now) s.keys)) (those (is_due now) s.sessions) lapsed_value
    (orderly_keys s (map (lapsed_lease now) s.keys) (λ k l p. inl (lapsed_was s now k l p).0) h)

pub orderly_filled : (s : State) (k : ℕ) (v : Value) → Orderly s → Orderly (fills s k v).after
unfolding fills
orderly_filled s k v h = orderly_keys s (set s.keys k (record { value = some v; lease = none })) (λ j l p. inl (filled_was s k v j l p)) h

pub orderly_evicted : (s : State) (k : ℕ) → Orderly s → Orderly (with_keys s (set_value s.keys k none))
orderly_evicted s k h = orderly_keys s (set_value s.keys k none) (λ j l p. inl (sym (Views.value_lease s.keys k none j) ∙ p)) h

-- a session put through f keeps its number
pub orderly_session : (s : State) (n : ℕ) (f : Session → Session) → ((x : Session) → (f x).number ≡ x.number) → Orderly s → Orderly (with_session s n f)
orderly_session s n f same h = orderly_sessions s (with_session s n f).sessions (λ i x e. let r = was_slot s n f i x e in (r.0, r.1, number x r.0 r.2)) h
  where
    number : (x m : Session) → (x ≡ m) ⊎ ((m.number ≡ n) × (x ≡ f m)) → m.number ≡ x.number
    number x m (inl e) = sym (ap (λ (y : Session). y.number) e)
    number x m (inr e) = sym (same m) ∙ sym (ap (λ (y : Session). y.number) e.1)

-- VALIDATE
pub orderly_seal : (s : State) (n : ℕ) → Orderly s → Orderly (with_session s n sealed)
orderly_seal s n h = orderly_session s n sealed (λ x. refl) h

-- STAGE and DELTA, in a row that is no invalidation
pub orderly_staged : (s : State) (n k i d : ℕ) (u v : Staged) → row_at s i ≡ row n k d v → (d ≡ INVALIDATE → ⊥) → Orderly s → Orderly (with_staged (with_session s n advanced) n k u)
orderly_staged s n k i d u v mine apart h = orderly_rows s₁ (with_staged s₁ n k u).rows (λ j m l c y e. let r = was_staged s₁ n k u j m l c y e in (r.0, r.1, λ one. plain j m l c y r.0 r.1 one r.2)) (orderly_session s n advanced (λ x. refl) h)
  where
    s₁ : State
    s₁ = with_session s n advanced

    plain : (j m l c : ℕ) (y y' : Staged) → row_at s j ≡ row m l c y' → c ≡ INVALIDATE → (y ≡ y') ⊎ ((m ≡ n) × (l ≡ k) × (y ≡ u)) → y ≡ y'
    plain j m l c y y' e one (inl f) = f
    plain j m l c y y' e one (inr f) = absurd (elim (h.alone i j n m k d c v y' mine (e ∙ ap (λ (z : ℕ). row m z c y') f.1)) [
      | inl q ↦ apart q
      | inr q ↦ (let same : row n k d v ≡ row m l c y' = sym mine ∙ ap (row_at s) q ∙ e in apart (cc))
    ])

-- records whose numbers are below the next, each number at one place, and new ones at the place `at`, with the next: each number is at one place still
pub next_alone : {A : Type 0} (number : A → ℕ) (next at : ℕ) (Old : ℕ → A → Type 0) (New : A → Type 0) → ((i : ℕ) (x : A) → Old i x → number x < next) → ((x : A) → New x → number x ≡ next)
    → ((i j : ℕ) (x y : A) → Old i x → Old j y → number x ≡ number y → i ≡ j)
    → (i j : ℕ) (x y : A) → Old i x ⊎ ((at ≡ i) × New x) → Old j y ⊎ ((at ≡ j) × New y) → number x ≡ number y → i ≡ j
next_alone number next at Old New below is alone i j x y (inl p) (inl q) e = alone i j x y p q e
next_alone number next at Old New below is alone i j x y (inl p) (inr q) e = absurd (let a = below i x p in let b = is y q.1 in omega arith)
next_alone number next at Old New below is alone i j x y (inr p) (inl q) e = absurd (let a = below j y q in let b = is x p.1 in omega arith)
next_alone number next at Old New below is alone i j x y (inr p) (inr q) e = sym p.0 ∙ q.0

-- BEGIN: the new number is the next, in a free place
pub orderly_begin : (s : State) (now : ℕ) → Orderly s → Orderly (begins s now).after
unfolding begins
orderly_begin s now h = record {
  leases = h.leases;
  numbers = λ i x e. elim (seen i x e) [ inl p ↦ (let q = h.numbers i x p in omega arith) | inr p ↦ (let q = p.1 in omega arith) ];
  unique = λ i j x y e f. next_alone (λ (x : Session). x.number) s.head.next_session at (λ i x. session_at s i ≡ session x) (λ x. x.number ≡ s.head.next_session) h.numbers (λ x e. e) h.unique i j x y (seen i x e) (seen j y f);
  kinds = h.kinds;
  alone = h.alone;
  plain = h.plain;
}
  where
    new : Session
    new = opened s.head.next_session (now + s.head.write_life)

    at : ℕ
    at = place free s.sessions

    Seen : ℕ → Session → Type 0
    Seen i x = (session_at s i ≡ session x) ⊎ ((at ≡ i) × (x.number ≡ s.head.next_session))

    seen : (i : ℕ) (x : Session) → get_or (set s.sessions at (session new)) i no_session ≡ session x → Seen i x
    seen i x e = elim (was_set s.sessions at (session new) i no_session (session x) (Views.no_session_lem x) e) [ inl p ↦ inl p | inr p ↦ inr (p.0, (let q = p.1 in cc)) ]

-- the lease that GET gives
abbrev pub next_lease : State → ℕ → Lease
next_lease s now = record { token = s.head.next_token; until = now + s.head.read_life }

-- GET answered LEASE: the next token, on a key with no row
pub orderly_leased : (s : State) (now k : ℕ) → ((i n d : ℕ) (v : Staged) → row_at s i ≡ row n k d v → ⊥) → Orderly s → Orderly (leased s now k).after
unfolding leased
orderly_leased s now k bare h = record {
  leases = λ j l e. lease j l (leased_was s k (next_lease s now) j l e);
  numbers = h.numbers;
  unique = h.unique;
  kinds = h.kinds;
  alone = h.alone;
  plain = h.plain;
}
  where
    lease : (j : ℕ) (l : Lease) → (lease_on s j ≡ some l) ⊎ ((k ≡ j) × (next_lease s now ≡ l)) → (l.token < suc s.head.next_token) × ((i n d : ℕ) (v : Staged) → row_at s i ≡ row n j d v → ⊥)
    lease j l (inl x) = let p = h.leases j l x in (omega (arith, p.0), p.1)
    lease j l (inr x) = (let q : s.head.next_token ≡ l.token = ap (λ (y : Lease). y.token) x.1 in omega arith, rw (← x.0) bare)

-- QUAR granted: who else has a row on the key invalidates, as the asker does, and the key's lease is voided
pub orderly_granted : (s : State) (n k kind : ℕ) → Within INVALIDATE INCREMENTAL kind → ((i m d : ℕ) (v : Staged) → row_at s i ≡ row m k d v → (kind ≡ INVALIDATE) × (d ≡ INVALIDATE)) → Orderly s
    → Orderly (with_keys (with_rows s (put_at free_row (row n k kind nothing) s.rows)) (set_lease s.keys k none))
orderly_granted s n k kind range sharing h = record {
  leases = λ j l e.
      let p = voided_was s k j l e in
      let q = h.leases j l p.1 in
      (q.0, λ i m d v f. elim (granted_was s n k kind i m j d v f) [ inl x ↦ q.1 i m d v x | inr x ↦ p.0 (sym x.2) ]);
  numbers = h.numbers;
  unique = h.unique;
  kinds = λ i m j d v e. elim (granted_was s n k kind i m j d v e) [ inl p ↦ h.kinds i m j d v p | inr p ↦ rw p.3 range ];
  alone = λ i i' m m' j d c u v e f. two i i' m m' j d c u v (granted_was s n k kind i m j d u e) (granted_was s n k kind i' m' j c v f);
  plain = λ i m j v e. elim (granted_was s n k kind i m j INVALIDATE (staged v) e) [ inl p ↦ h.plain i m j v p | inr p ↦ (let q = p.4 in zero_one cc) ];
}
  where
    two : (i i' m m' j d c : ℕ) (u v : Staged) → GrantedWas s n k kind i m j d u → GrantedWas s n k kind i' m' j c v → (d ≡ INVALIDATE) ⊎ (i ≡ i')
    two i i' m m' j d c u v (inl x) (inl y) = h.alone i i' m m' j d c u v x y
    two i i' m m' j d c u v (inl x) (inr y) = inl (sharing i m d u (rw y.2 at x)).1
    two i i' m m' j d c u v (inr x) (inl y) = inl (x.3 ∙ (sharing i' m' c v (rw x.2 at y)).0)
    two i i' m m' j d c u v (inr x) (inr y) = inr (sym x.0 ∙ y.0)

-- the fresh state
pub orderly_fresh : (read_life write_life : ℕ) → Orderly (fresh read_life write_life)
unfolding fresh
orderly_fresh read_life write_life = record {
  leases = λ k l e. Views.fresh_lease read_life write_life k l e;
  numbers = λ i x e. Views.fresh_session read_life write_life i x e;
  unique = λ i j x y e f q. Views.fresh_session read_life write_life i x e;
  kinds = λ i n k d v e. Views.fresh_row read_life write_life i n k d v e;
  alone = λ i j n m k d c u v e f. Views.fresh_row read_life write_life i n k d u e;
  plain = λ i n k v e. Views.fresh_row read_life write_life i n k INVALIDATE (staged v) e;
}
