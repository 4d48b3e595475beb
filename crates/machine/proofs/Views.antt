-- Views of the tables after a change: each law says what stands at a place of a table, in terms of what stood there before.
-- A fact about a table is always an equation on the entry at a place, so that constructors tell entries apart by themselves.
use Rattle.std.specs.Prelude.{if◌then◌else◌}
use mathlib.Core.Path.{◌≡◌, refl, sym, ap, ap₂, ◌∙◌, subst}
use mathlib.Core.Bool.{Bool, true, false, ◌||◌, or-true}
use mathlib.Core.Logic.{◌⊎◌, inl, inr}
use mathlib.Core.List.{List, [], ◌∷◌, map}
use mathlib.Core.Option.{Option, none, some}
use Prim.Native.Nat.{ℕ, zero, suc, ◌<◌}
use native.Mathlib.Omega.{arith}
use lib.Dec.{eqb, leb}
use borrow.Author.Tests.{eqb-true, eqb-false, eq-eqb, leb-false}
use lib.ListN.{length, get_or, set, replicate}
use Rattle.lent.proofs.Choices.{and_yes, case_of, clash, zero_one, if_ind, if_left}
use Rattle.machine.specs.Sizes.{key_count, session_count, row_count}
use Rattle.machine.specs.Words.{word_of, STATE}
use Rattle.machine.specs.Tables.{place, find, any, first, mem}
use Rattle.machine.specs.Session.{due_life}
use Rattle.machine.specs.State.{Value, Lease, Key, blank, Slot, no_session, session, Staged, nothing, staged, DROP, Row, no_row, row, fresh, on, free, free_row, of_on, numbered, cached, lease_on, session_at, row_at}
use Rattle.machine.specs.Expiry.{free_if_of, free_session, set_value, set_lease, settle, those, unlapsed}
use Rattle.machine.specs.Effects.{to_cache}
use Rattle.machine.specs.declared.Refusal.{Refusal}
use Rattle.machine.specs.declared.Life.{Life}
use Rattle.machine.specs.declared.Session.{Session}
use Rattle.machine.specs.declared.Answer.{Answer}

-- Constructors that differ: from an equation of two of them at hand, `cc` gives 0 ≡ 1

pub no_some : {A B : Type 0} (b : B) → none ≡ some b → A
no_some b e = zero_one cc

pub no_row_lem : {A : Type 0} (n k d : ℕ) (v : Staged) → no_row ≡ row n k d v → A
no_row_lem n k d v e = zero_one cc

pub no_session_lem : {A : Type 0} (l : Session) → no_session ≡ session l → A
no_session_lem l e = zero_one cc

-- two answers of different words
pub answers_differ : {A : Type 0} (a b : Answer) → eqb (word_of a) (word_of b) ≡ false → a ≡ b → A
answers_differ a b q e = clash (eqb (word_of a) (word_of b)) (eq-eqb (word_of a) (word_of b) (ap word_of e)) q

pub some_eq : {A : Type 0} (a b : A) → some a ≡ some b → a ≡ b
some_eq a b e = cc

-- Refusals: where none applies, each test is false

pub first-none : (l : List (Bool × Refusal)) → first l ≡ none → (i : ℕ) → (get_or l i (false, STATE)).0 ≡ false
first-none [] e i = refl
first-none (x ∷ l) e zero = elim (case_of x.0) [ inl p ↦ no_some x.1 (sym (rw p at e)) | inr p ↦ p ]
first-none (x ∷ l) e (suc i) = elim (case_of x.0) [ inl p ↦ no_some x.1 (sym (rw p at e)) | inr p ↦ first-none l (rw p at e) i ]

-- Tables

module _ {A : Type 0} where
  -- an entry after `set`
  pub data AfterSet (l : List A) (i : ℕ) (a : A) (j : ℕ) (d : A) : Type 0 where
    other : (i ≡ j → ⊥) → get_or (set l i a) j d ≡ get_or l j d → AfterSet l i a j d
    here : i ≡ j → get_or (set l i a) j d ≡ a → AfterSet l i a j d
    out : i ≡ j → get_or (set l i a) j d ≡ d → get_or l j d ≡ d → AfterSet l i a j d

  pub after-set : (l : List A) (i : ℕ) (a : A) (j : ℕ) (d : A) → AfterSet l i a j d
  after-set [] i a j d = elim (case_of (eqb i j)) [ inl e ↦ out (eqb-true i j e) refl refl | inr e ↦ other (eqb-false i j e) refl ]
  after-set (x ∷ l) zero a zero d = here refl refl
  after-set (x ∷ l) zero a (suc j) d = other (λ p. omega arith) refl
  after-set (x ∷ l) (suc i) a zero d = other (λ p. omega arith) refl
  after-set (x ∷ l) (suc i) a (suc j) d = up (after-set l i a j d)
    where
      up : AfterSet l i a j d → AfterSet (x ∷ l) (suc i) a (suc j) d
      up (other p e) = other (λ q. p (omega arith)) e
      up (here p e) = here (ap suc p) e
      up (out p e f) = out (ap suc p) e f

  -- a part of an entry after `set` stood at another place before, or was set
  pub was_part : {B : Type 0} (part : A → B) (l : List A) (i : ℕ) (a : A) (j : ℕ) (d : A) (b : B) → (part d ≡ b → ⊥) → part (get_or (set l i a) j d) ≡ b → ((i ≡ j → ⊥) × (part (get_or l j d) ≡ b)) ⊎ ((i ≡ j) × (part a ≡ b))
  was_part part l i a j d b entry e = elim (after-set l i a j d) [
    | other p q ↦ inl (p, sym (ap part q) ∙ e)
    | here p q ↦ inr (p, sym (ap part q) ∙ e)
    | out p q r ↦ absurd (entry (sym (ap part q) ∙ e))
  ]

  -- a part of the entry that the new one has as it was
  pub part_kept : {B : Type 0} (part : A → B) (l : List A) (i : ℕ) (a : A) (j : ℕ) (d : A) → part a ≡ part (get_or l i d) → part (get_or (set l i a) j d) ≡ part (get_or l j d)
  part_kept part l i a j d q = elim (after-set l i a j d) [ other p e ↦ ap part e | here p e ↦ cc | out p e f ↦ cc ]

  -- the entry at the place of the first that passes passes; where none does, it is the default
  pub find_test : (p : A → Bool) (d : A) (l : List A) → (find p d l ≡ d) ⊎ (p (find p d l) ≡ true)
  find_test p d [] = inl refl
  find_test p d (x ∷ l) = if_ind (λ i. (get_or (x ∷ l) i d ≡ d) ⊎ (p (get_or (x ∷ l) i d) ≡ true)) (p x) (λ q. inr q) (λ q. find_test p d l)

  pub find_passes : (p : A → Bool) (d : A) (l : List A) (i : ℕ) → p d ≡ false → p (get_or l i d) ≡ true → p (find p d l) ≡ true
  find_passes p d [] i e h = clash (p d) h e
  find_passes p d (x ∷ l) zero e h = rw h h
  find_passes p d (x ∷ l) (suc i) e h = if_ind (λ j. p (get_or (x ∷ l) j d) ≡ true) (p x) (λ q. q) (λ q. find_passes p d l i e h)

  -- the lowest free place is free
  pub free-place : (p : A → Bool) (d : A) (l : List A) → p d ≡ true → p (get_or l (place p l) d) ≡ true
  free-place p d l e = elim (find_test p d l) [ inl q ↦ rw q e | inr q ↦ q ]

  pub any_at : (p : A → Bool) (d : A) (l : List A) (i : ℕ) → p d ≡ false → p (get_or l i d) ≡ true → any p l ≡ true
  any_at p d [] i e h = clash (p d) h e
  any_at p d (x ∷ l) zero e h = rw h
  any_at p d (x ∷ l) (suc i) e h = rw (any_at p d l i e h) (or-true (p x))

  pub any_place : (p : A → Bool) (d : A) (l : List A) → any p l ≡ true → (i : ℕ) × (p (get_or l i d) ≡ true)
  any_place p d [] h = clash false h refl
  any_place p d (x ∷ l) h = go (case_of (p x)) (any_place p d l)
    where
      go : (p x ≡ true) ⊎ (p x ≡ false) → (any p l ≡ true → (i : ℕ) × (p (get_or l i d) ≡ true)) → (i : ℕ) × (p (get_or (x ∷ l) i d) ≡ true)
      go (inl q) r = (0, q)
      go (inr q) r = let u = r (rw q at h) in (suc u.0, u.1)

  pub none_any : (p : A → Bool) (d : A) (l : List A) → ((j : ℕ) → j < length l → p (get_or l j d) ≡ false) → any p l ≡ false
  none_any p d [] f = refl
  none_any p d (x ∷ l) f = rw (f 0 (omega arith)) (none_any p d l (λ j h. f (suc j) (omega arith)))

  -- two tests that say the same, and every entry put through f
  pub any_same : (p q : A → Bool) → ((x : A) → p x ≡ q x) → (l : List A) → any p l ≡ any q l
  any_same p q same [] = refl
  any_same p q same (x ∷ l) = ap₂ ◌||◌ (same x) (any_same p q same l)

  pub any_mapped : (p : A → Bool) (f : A → A) (q : A → Bool) → ((x : A) → p (f x) ≡ q x) → (l : List A) → any p (map f l) ≡ any q l
  any_mapped p f q same [] = refl
  any_mapped p f q same (x ∷ l) = ap₂ ◌||◌ (same x) (any_mapped p f q same l)

-- a table of one entry, many times
pub get_or-same : {A : Type 0} (n i : ℕ) (a : A) → get_or (replicate n a) i a ≡ a
get_or-same zero i a = refl
get_or-same (suc n) zero a = refl
get_or-same (suc n) (suc i) a = get_or-same n i a

pub part_same : {A B C : Type 0} (part : B → C) (n i : ℕ) (d : B) (c : C) → (part d ≡ c → A) → part (get_or (replicate n d) i d) ≡ c → A
part_same part n i d c differs e = differs (sym (ap part (get_or-same n i d)) ∙ e)

-- so nothing stands in the fresh state
module _ {A : Type 0} (read_life write_life : ℕ) where
  pub fresh_value : (k : ℕ) (v : Value) → cached (fresh read_life write_life) k ≡ some v → A
  unfolding fresh
  fresh_value k v = part_same (λ (x : Key). x.value) key_count k blank (some v) (no_some v)

  pub fresh_lease : (k : ℕ) (l : Lease) → lease_on (fresh read_life write_life) k ≡ some l → A
  unfolding fresh
  fresh_lease k l = part_same (λ (x : Key). x.lease) key_count k blank (some l) (no_some l)

  pub fresh_session : (i : ℕ) (x : Session) → session_at (fresh read_life write_life) i ≡ session x → A
  unfolding fresh
  fresh_session i x = part_same (λ (y : Slot). y) session_count i no_session (session x) (no_session_lem x)

  pub fresh_row : (i n k d : ℕ) (v : Staged) → row_at (fresh read_life write_life) i ≡ row n k d v → A
  unfolding fresh
  fresh_row i n k d v = part_same (λ (y : Row). y) row_count i no_row (row n k d v) (no_row_lem n k d v)

-- a list of one number
pub mem-one : (m n : ℕ) → mem m (n ∷ []) ≡ true → m ≡ n
mem-one m n e = go (case_of (eqb n m))
  where
    go : (eqb n m ≡ true) ⊎ (eqb n m ≡ false) → m ≡ n
    go (inl q) = sym (eqb-true n m q)
    go (inr q) = clash false (rw q at e) refl

-- Rows and sessions

pub free_slot_is : (e : Slot) → free e ≡ true → e ≡ no_session
free_slot_is no_session e = refl
free_slot_is (session l) e = clash false e refl

pub numbered_live : (n : ℕ) (e : Slot) → numbered n e ≡ true → free e ≡ false
numbered_live n no_session e = sym e
numbered_live n (session x) e = refl

pub on_row : (k : ℕ) (r : Row) → on k r ≡ true → (n : ℕ) × (d : ℕ) × (v : Staged) × (r ≡ row n k d v)
on_row k no_row e = clash false e refl
on_row k (row n j d v) e = (n, d, v, ap (λ (x : ℕ). row n x d v) (eqb-true j k e))

pub row_on : (n k d : ℕ) (v : Staged) (r : Row) → r ≡ row n k d v → on k r ≡ true
row_on n k d v r e = rw e (eq-eqb k k refl)

pub of-on_row : (n k : ℕ) (r : Row) → of_on n k r ≡ true → (d : ℕ) × (v : Staged) × (r ≡ row n k d v)
of-on_row n k no_row e = clash false e refl
of-on_row n k (row m j d v) e =
    let p = and_yes (eqb m n) (eqb j k) e in
    let a : m ≡ n = eqb-true m n p.0 in
    let b : j ≡ k = eqb-true j k p.1 in
    (d, v, cc)

pub of-on-taken : (n k : ℕ) (r : Row) → of_on n k r ≡ true → free_row r ≡ false
of-on-taken n k no_row e = sym e
of-on-taken n k (row m j d v) e = refl

pub freed_was : (ns : List ℕ) (r : Row) (n k d : ℕ) (v : Staged) → free_if_of ns r ≡ row n k d v → (r ≡ row n k d v) × (mem n ns ≡ false)
freed_was ns no_row n k d v e = no_row_lem n k d v e
freed_was ns (row m j c u) n k d v e = if_left (λ (x : Row). elim x [ no_row ↦ false | row n k d v ↦ mem n ns ]) (no_row_lem n k d v) e

pub not_freed : (ns : List ℕ) (r : Row) (n k d : ℕ) (v : Staged) → r ≡ row n k d v → mem n ns ≡ false → free_if_of ns r ≡ row n k d v
not_freed ns r n k d v e q = rw e (rw q)

pub ended_was : (ns : List ℕ) (r : Slot) (l : Session) → free_session ns r ≡ session l → (r ≡ session l) × (mem l.number ns ≡ false)
ended_was ns no_session l e = no_session_lem l e
ended_was ns (session m) l e = if_left (λ (x : Slot). elim x [ no_session ↦ false | session y ↦ mem y.number ns ]) (no_session_lem l) e

-- who is among those passes the test; and who passes it is among them
pub among_those : (p : Session → Bool) (l : List Slot) (n : ℕ) → mem n (those p l) ≡ true → (i : ℕ) × (m : Session) × (get_or l i no_session ≡ session m) × (m.number ≡ n) × (p m ≡ true)
among_those p [] n e = clash false e refl
among_those p (no_session ∷ l) n e = let r = among_those p l n e in (suc r.0, r.1, r.2, r.3, r.4)
among_those p (session m ∷ l) n e = go (case_of (p m)) (case_of (eqb m.number n)) (among_those p l n)
  where
    Place : List Slot → Type 0
    Place l' = (i : ℕ) × (x : Session) × (get_or l' i no_session ≡ session x) × (x.number ≡ n) × (p x ≡ true)

    go : (p m ≡ true) ⊎ (p m ≡ false) → (eqb m.number n ≡ true) ⊎ (eqb m.number n ≡ false) → (mem n (those p l) ≡ true → Place l) → Place (session m ∷ l)
    go (inl h) (inl q) f = (0, m, refl, eqb-true m.number n q, h)
    go (inl h) (inr q) f = let r = f (rw q at (rw h at e)) in (suc r.0, r.1, r.2, r.3, r.4)
    go (inr h) q f = let r = f (rw h at e) in (suc r.0, r.1, r.2, r.3, r.4)

pub those_has : (p : Session → Bool) (l : List Slot) (i : ℕ) (m : Session) → get_or l i no_session ≡ session m → p m ≡ true → mem m.number (those p l) ≡ true
those_has p [] i m e h = no_session_lem m e
those_has p (no_session ∷ l) zero m e h = no_session_lem m e
those_has p (no_session ∷ l) (suc i) m e h = those_has p l i m e h
those_has p (session x ∷ l) zero m e h = let f : x ≡ m = cc in subst (λ (y : Session). mem m.number (those p (session y ∷ l)) ≡ true) (sym f) (rw h (rw (eq-eqb m.number m.number refl) refl))
those_has p (session x ∷ l) (suc i) m e h = go (case_of (p x)) (those_has p l i m e h)
  where
    go : (p x ≡ true) ⊎ (p x ≡ false) → mem m.number (those p l) ≡ true → mem m.number (those p (session x ∷ l)) ≡ true
    go (inl q) r = rw q (rw r (or-true (eqb x.number m.number)))
    go (inr q) r = rw q r

pub due_open : (now : ℕ) (p : Life) → due_life now p ≡ true → p ≡ Life.Sealed → ⊥
due_open now Life.Sealed e q = clash false e refl
due_open now (Life.Open t) e q = zero_one cc

-- a lease that is left was there, and ends after now
pub unlapsed_was : (now : ℕ) (o : Option Lease) (l : Lease) → unlapsed now o ≡ some l → (o ≡ some l) × (now < l.until)
unlapsed_was now none l e = no_some l e
unlapsed_was now (some m) l e = let f = if_left (λ (x : Option Lease). elim x [ none ↦ false | some y ↦ leb y.until now ]) (no_some l) e in (f.0, leb-false l.until now f.1)

-- Values and leases

pub value_lease : (l : List Key) (j : ℕ) (o : Option Value) (k : ℕ) → (get_or (set_value l j o) k blank).lease ≡ (get_or l k blank).lease
value_lease l j o k = part_kept (λ (x : Key). x.lease) l j _ k blank refl

pub lease_value : (l : List Key) (j : ℕ) (o : Option Lease) (k : ℕ) → (get_or (set_lease l j o) k blank).value ≡ (get_or l k blank).value
lease_value l j o k = part_kept (λ (x : Key). x.value) l j _ k blank refl

-- the value or the lease of a key after one was set: it was there, on another key, or was set
pub key_was : {B : Type 0} (part : Key → Option B) → part blank ≡ none → (l : List Key) (j : ℕ) (x : Key) (k : ℕ) (b : B) → part (get_or (set l j x) k blank) ≡ some b → ((j ≡ k → ⊥) × (part (get_or l k blank) ≡ some b)) ⊎ ((j ≡ k) × (part x ≡ some b))
key_was part q l j x k b = was_part part l j x k blank (some b) (λ e. no_some b (sym q ∙ e))

-- where y was set
pub set_was : {B : Type 0} (part : Key → Option B) → part blank ≡ none → (l : List Key) (j : ℕ) (x : Key) (y : B) → part x ≡ some y → (k : ℕ) (b : B) → part (get_or (set l j x) k blank) ≡ some b → (part (get_or l k blank) ≡ some b) ⊎ ((j ≡ k) × (y ≡ b))
set_was part q l j x y is k b e = elim (key_was part q l j x k b e) [ inl p ↦ inl p.1 | inr p ↦ inr (p.0, some_eq y b (sym is ∙ p.1)) ]

-- where none was
pub unset_was : {B : Type 0} (part : Key → Option B) → part blank ≡ none → (l : List Key) (j : ℕ) (x : Key) → part x ≡ none → (k : ℕ) (b : B) → part (get_or (set l j x) k blank) ≡ some b → (j ≡ k → ⊥) × (part (get_or l k blank) ≡ some b)
unset_was part q l j x is k b e = elim (key_was part q l j x k b e) [ inl p ↦ p | inr p ↦ no_some b (sym is ∙ p.1) ]

-- a value after the rows of the sessions ns have set theirs: the old one, and none of those rows is on the key; or one that such a row set
abbrev pub Untouched : List ℕ → List Row → ℕ → Type 0
Untouched ns rs k = (i n d : ℕ) (u : Staged) → get_or rs i no_row ≡ row n k d u → mem n ns ≡ false

pub record SetBy (ns : List ℕ) (f : Staged → Option Value) (rs : List Row) (k : ℕ) (v : Value) : Type 0 where
  pub place : ℕ
  pub number : ℕ
  pub kind : ℕ
  pub what : Staged
  pub is : get_or rs place no_row ≡ row number k kind what
  pub among : mem number ns ≡ true
  pub gives : f what ≡ some v

untouched_cons : (ns : List ℕ) (k : ℕ) (x : Row) (rs : List Row) → ((n d : ℕ) (u : Staged) → x ≡ row n k d u → mem n ns ≡ false) → Untouched ns rs k → Untouched ns (x ∷ rs) k
untouched_cons ns k x rs h g zero n d u e = h n d u e
untouched_cons ns k x rs h g (suc i) n d u e = g i n d u e

module _ (ns : List ℕ) (f : Staged → Option Value) (k : ℕ) (v : Value) where
  set-by-cons : (x : Row) (rs : List Row) → SetBy ns f rs k v → SetBy ns f (x ∷ rs) k v
  set-by-cons x rs s = record { place = suc s.place; number = s.number; kind = s.kind; what = s.what; is = s.is; among = s.among; gives = s.gives }

  pub settle_value : (rs : List Row) (ks : List Key) → (get_or (settle ns f rs ks) k blank).value ≡ some v
      → (((get_or ks k blank).value ≡ some v) × Untouched ns rs k) ⊎ SetBy ns f rs k v
  settle_value [] ks e = inl (e, λ i n d u h. no_row_lem n k d u h)
  settle_value (no_row ∷ rs) ks e = up (settle_value rs ks e)
    where
      up : (((get_or ks k blank).value ≡ some v) × Untouched ns rs k) ⊎ SetBy ns f rs k v → (((get_or ks k blank).value ≡ some v) × Untouched ns (no_row ∷ rs) k) ⊎ SetBy ns f (no_row ∷ rs) k v
      up (inl h) = inl (h.0, untouched_cons ns k no_row rs (λ n d u q. no_row_lem n k d u q) h.1)
      up (inr s) = inr (set-by-cons no_row rs s)
  settle_value (row m j d u ∷ rs) ks e = go (case_of (mem m ns)) (settle_value rs)
    where
      Result : List Key → List Row → Type 0
      Result ks' rs' = (((get_or ks' k blank).value ≡ some v) × Untouched ns rs' k) ⊎ SetBy ns f rs' k v

      -- the row's session is not among ns
      left : mem m ns ≡ false → Result ks rs → Result ks (row m j d u ∷ rs)
      left q (inl h) = inl (h.0, untouched_cons ns k (row m j d u) rs (λ n d' u' p. let g : m ≡ n = cc in rw (← g) q) h.1)
      left q (inr s) = inr (set-by-cons (row m j d u) rs s)

      -- it is, and the key is set by f
      set_here : mem m ns ≡ true → Result (set_value ks j (f u)) rs → Result ks (row m j d u ∷ rs)
      set_here q (inr s) = inr (set-by-cons (row m j d u) rs s)
      set_here q (inl h) = elim (key_was (λ (y : Key). y.value) refl ks j _ k v h.0) [
        | inl x ↦ inl (x.1, untouched_cons ns k (row m j d u) rs (λ n d' u' y. absurd (x.0 (cc))) h.1)
        | inr x ↦ inr (record { place = 0; number = m; kind = d; what = u; is = ap (λ (y : ℕ). row m y d u) x.0; among = q; gives = x.1 })
      ]

      go : (mem m ns ≡ true) ⊎ (mem m ns ≡ false) → ((ks' : List Key) → (get_or (settle ns f rs ks') k blank).value ≡ some v → Result ks' rs) → Result ks (row m j d u ∷ rs)
      go (inl q) r = set_here q (r (set_value ks j (f u)) (rw q at e))
      go (inr q) r = left q (r ks (rw q at e))

pub settle_lease : (ns : List ℕ) (f : Staged → Option Value) (k : ℕ) (rs : List Row) (ks : List Key) → (get_or (settle ns f rs ks) k blank).lease ≡ (get_or ks k blank).lease
settle_lease ns f k [] ks = refl
settle_lease ns f k (no_row ∷ rs) ks = settle_lease ns f k rs ks
settle_lease ns f k (row m j d u ∷ rs) ks = go (mem m ns) (settle_lease ns f k rs)
  where
    go : (b : Bool) → ((ks' : List Key) → (get_or (settle ns f rs ks') k blank).lease ≡ (get_or ks' k blank).lease) → (get_or (settle ns f rs (if b then set_value ks j (f u) else ks)) k blank).lease ≡ (get_or ks k blank).lease
    go true r = r (set_value ks j (f u)) ∙ value_lease ks j (f u) k
    go false r = r ks

-- what DONE caches was staged
pub to_cache_lem : (u : Staged) (v : Value) → to_cache u ≡ some v → u ≡ staged v
to_cache_lem nothing v e = no_some v e
to_cache_lem (staged w) v e = let f : w ≡ v = cc in ap staged f
to_cache_lem DROP v e = no_some v e
