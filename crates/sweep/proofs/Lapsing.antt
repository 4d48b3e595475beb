-- Where nothing lapses, expiry changes nothing: no lease goes, no session is due, and the rows of no sessions end.
use mathlib.Core.Path.{◌≡◌, refl, ap, ap₂}
use mathlib.Core.Bool.{Bool, false}
use mathlib.Core.Option.{Option}
use mathlib.Core.List.{List, [], ◌∷◌, map}
use Prim.Native.Nat.{ℕ}
use Rattle.lent.proofs.Choices.{or_no}
use Rattle.machine.specs.Tables.{any}
use Rattle.machine.specs.Session.{is_due}
use Rattle.machine.specs.State.{Value, Lease, Key, Slot, no_session, session, Staged, Row, no_row, row, State}
use Rattle.machine.specs.Expiry.{free_session, free_if_of, settle, leave, finish, lapsed_value, lapsed_lease, those, expire}
use Rattle.machine.specs.Effects.{to_cache}
use Rattle.endings.specs.declared.Ending.{Ending}
use Rattle.endings.specs.Ends.{keys_settled, end_rows}
use Rattle.deadlines.specs.Deadlines.{lapsed_on, due_slot}
use Rattle.deadlines.proofs.Deadlines.{unlapsed-same}
use Rattle.sweep.specs.Lapsing.{lapsing}

-- a map that changes only what passes a test that nothing passes
pub unmapped : {A : Type 0} (p : A → Bool) (f : A → A) → ((x : A) → p x ≡ false → f x ≡ x) → (l : List A) → any p l ≡ false → map f l ≡ l
unmapped p f same [] h = refl
unmapped p f same (x ∷ l) h = let b = or_no (p x) (any p l) h in ap₂ ◌∷◌ (same x b.0) (unmapped p f same l b.1)

-- a map that changes nothing
map_same : {A : Type 0} (f : A → A) → ((x : A) → f x ≡ x) → (l : List A) → map f l ≡ l
map_same f same [] = refl
map_same f same (x ∷ l) = ap₂ ◌∷◌ (same x) (map_same f same l)

same_lease : (now : ℕ) (e : Key) → lapsed_on now e ≡ false → lapsed_lease now e ≡ e
same_lease now e h = ap (λ (o : Option Lease). record { value = e.value; lease = o }) (unlapsed-same now e.lease h)

none-those : (now : ℕ) (l : List Slot) → any (due_slot now) l ≡ false → those (is_due now) l ≡ []
none-those now [] h = refl
none-those now (no_session ∷ l) h = none-those now l h
none-those now (session x ∷ l) h = let b = or_no (is_due now x) (any (due_slot now) l) h in rw b.0 (none-those now l b.1)

-- of no sessions
free-none : (l : List Slot) → map (free_session []) l ≡ l
free-none l = map_same (free_session []) go l
  where
    go : (e : Slot) → free_session [] e ≡ e
    go no_session = refl
    go (session x) = refl

rows_none : (rs : List Row) → map (free_if_of []) rs ≡ rs
rows_none rs = map_same (free_if_of []) go rs
  where
    go : (r : Row) → free_if_of [] r ≡ r
    go no_row = refl
    go (row n k d u) = refl

settle-none : (f : Staged → Option Value) (rs : List Row) (ks : List Key) → settle [] f rs ks ≡ ks
settle-none f [] ks = refl
settle-none f (no_row ∷ rs) ks = settle-none f rs ks
settle-none f (row n k d u ∷ rs) ks = settle-none f rs ks

pub rows_of-none : (e : Ending) (s : State) → end_rows e [] s ≡ s
unfolding end_rows
rows_of-none e s = rw (go e, rows_none s.rows)
  where
    go : (e : Ending) → keys_settled e [] s.rows s.keys ≡ s.keys
    go Ending.Leaves = refl
    go Ending.Lapses = settle-none lapsed_value s.rows s.keys
    go Ending.Caches = settle-none to_cache s.rows s.keys

finish-none : (f : Staged → Option Value) (s : State) → finish [] f s ≡ s
unfolding finish leave
finish-none f s = rw (settle-none, rows_none, free-none)

pub nothing_lapses : (now : ℕ) (s : State) → lapsing now s ≡ false → expire now s ≡ s
unfolding lapsing expire
nothing_lapses now s h =
    let b = or_no (any (lapsed_on now) s.keys) (any (due_slot now) s.sessions) h in
    rw (none-those now s.sessions b.1, unmapped (lapsed_on now) (lapsed_lease now) (same_lease now) s.keys b.0) (finish-none lapsed_value s)
