-- What the book records of a world: each key's registered value is the register's; a leased key's noted value is what the register held at the grant;
-- and a live session is marked exactly if the register has written for it. A mark is of a number that was given, so a session that begins at a marked
-- place is unmarked. Each line keeps this: a command notes at most the grant that it is answered with, a write marks the session where it is live.
use Rattle.std.specs.Prelude.{if◌then◌else◌}
use mathlib.Core.Path.{◌≡◌, refl, sym, ap, ◌∙◌}
use mathlib.Core.Bool.{Bool, true, false, not, ◌&&◌, ◌||◌, and-false}
use mathlib.Core.Logic.{◌⊎◌, inl, inr}
use mathlib.Core.List.{List, [], ◌∷◌}
use mathlib.Core.Option.{some}
use Prim.Native.Nat.{ℕ, ◌≤◌, ◌<◌}
use native.Mathlib.Omega.{arith}
use borrow.Author.Tests.{eqb-true, eqb-false, eq-eqb, ne_eqb, lt-ltb, ltb-true}
use lib.Dec.{eqb, ltb}
use lib.ListN.{length}
use Rattle.lent.proofs.Choices.{case_of, clash, if_ind}
use Rattle.machine.specs.Sizes.{key_count, session_count, value_max}
use Rattle.machine.specs.Words.{word_of, LEASE}
use Rattle.machine.specs.State.{Value, Lease, no_session, session, State, numbered, session_place, session_of, lease_on, session_at}
use Rattle.machine.specs.Sound.{sound}
use Rattle.machine.specs.Refusals.{not_live}
use Rattle.machine.specs.Effects.{Outcome}
use Rattle.machine.specs.World.{World, since_grant, commanded, written}
use Rattle.machine.specs.WellFormed.{Orderly}
use Rattle.machine.specs.declared.Session.{Session}
use Rattle.machine.specs.declared.Command.{Command}
use Rattle.machine.proofs.Views
use Rattle.machine.proofs.Accepted.{session_of_lem}
use Rattle.machine.proofs.SoundMeans.{sound_means, key_inside, keys_length, sessions_length}
use Rattle.machine.proofs.SoundFacts.{next_session_lem, session_place_lem}
use Rattle.layout.proofs.Search.{place_passes}
use Rattle.book.specs.Book.{book_size, registered, granted, with_registered, with_granted, mark, with_mark, counted}
use Rattle.book.proofs.Laws
use Rattle.rules.specs.Rules.{noted}
use Rattle.rules.specs.Tests.{asks_for}
use Rattle.rules.proofs.Told.{noted_is, noted-none, noted-grant}
use Rattle.rehearsed.specs.TwoValues.{oldest}
use Rattle.rehearsed.proofs.Moves.{Leases, quiet, grant, Moves}
use Rattle.rehearsed.proofs.TwoValues.{oldest-any, since_quiet, since_grant_lem, since_other}

-- what was noted of a token's lease on a key
abbrev pub NotedAs : Value → List Value → Type 0
NotedAs v l = (1 ≤ length l) × (v ≡ oldest [] l)

pub record Recorded (b : List ℕ) (w : World) : Type 0 where
  pub size : length b ≡ book_size
  pub register : (k : ℕ) → registered b k ≡ w.register k
  pub grants : (k : ℕ) (l : Lease) → lease_on w.state k ≡ some l → NotedAs (granted b k) (w.since l.token k)
  pub marks : (i : ℕ) (x : Session) → session_at w.state i ≡ session x → eqb (mark b i) x.number ≡ w.wrote x.number
  pub below : (i : ℕ) → i < session_count → mark b i < w.state.head.next_session
  pub wrote : (n : ℕ) → w.wrote n ≡ true → n < w.state.head.next_session

-- A line is counted

pub recorded-counted : (b : List ℕ) (w : World) (rule : ℕ) → Recorded b w → Recorded (counted b rule) w
recorded-counted b w rule h = record {
  size = Laws.length-counted b h.size rule;
  register = λ k. Laws.registered-counted b h.size rule k ∙ h.register k;
  grants = λ k l e. rw (Laws.granted-counted b h.size rule k) (h.grants k l e);
  marks = λ i x e. rw (Laws.mark-counted b h.size rule i) (h.marks i x e);
  below = λ i f. rw (Laws.mark-counted b h.size rule i) (h.below i f);
  wrote = h.wrote;
}

-- A command: what it notes

-- nothing, or a grant
pub noted_ind : (P : List ℕ → Type 0) (b : List ℕ) (c : Command) (word : ℕ) → P b → ((k : ℕ) → eqb word LEASE ≡ true → P (with_granted b k (registered b k))) → P (noted b c word)
noted_ind P b c word f g = rw (noted_is b c word) (if_ind P (eqb word LEASE) (g (asks_for c)) (λ q. f))

module _ (b : List ℕ) (w : World) (h : Recorded b w) (o : Orderly w.state) (c : Command) (r : Outcome) (m : Moves w.state c r) (after-sound : sound r.after ≡ true) where
  -- a session after it is marked as it was; one that is new is unmarked, and the register has not written for it
  marks_after : (i : ℕ) (x : Session) → session_at r.after i ≡ session x → eqb (mark b i) x.number ≡ w.wrote x.number
  marks_after i x e = elim (m.places i x e) [
    | inl p ↦ (let q = h.below i (session_place_lem r.after after-sound i e) in ne_eqb (mark b i) x.number (λ z. omega arith) ∙ sym (unwritten p (case_of (w.wrote x.number))))
    | inr p ↦ rw p.2 at (h.marks i p.0 p.1)
  ]
    where
      unwritten : w.state.head.next_session ≤ x.number → (w.wrote x.number ≡ true) ⊎ (w.wrote x.number ≡ false) → w.wrote x.number ≡ false
      unwritten p (inl q) = absurd (let z = h.wrote x.number q in omega arith)
      unwritten p (inr q) = q

  -- another book that differs only in what is noted of leases
  recorded-by : (b' : List ℕ) → length b' ≡ book_size → ((k : ℕ) → registered b' k ≡ registered b k) → ((i : ℕ) → mark b' i ≡ mark b i)
      → ((k : ℕ) (l : Lease) → lease_on r.after k ≡ some l → NotedAs (granted b' k) (since_grant w.register w.since r.answer l.token k)) → Recorded b' (commanded w r)
  unfolding commanded
  recorded-by b' e f g grants = record {
    size = e;
    register = λ k. f k ∙ h.register k;
    grants = grants;
    marks = λ i x p. rw (g i) (marks_after i x p);
    below = λ i p. let q = h.below i p in let z = m.grows in let y = g i in omega arith;
    wrote = λ n p. let q = h.wrote n p in let z = m.grows in omega arith;
  }

  pub recorded-commanded : Recorded (noted b c (word_of r.answer)) (commanded w r)
  recorded-commanded = go m.leases
    where
      go : Leases w.state c r.answer r.after → Recorded (noted b c (word_of r.answer)) (commanded w r)
      go (quiet q f) = rw (← noted-none b c (word_of r.answer) (eqb-false (word_of r.answer) LEASE q)) (recorded-by b h.size (λ k. refl) (λ i. refl)
          (λ k l e. rw (since_quiet w.register w.since r.answer l.token k q) (h.grants k l (f k l e))))
      go (grant n k p q f) = rw (← noted-grant b c (word_of r.answer) k (ap word_of q) (sym (ap asks_for p))) (recorded-by b' (Laws.granted_keeps b h.size k (registered b k) short).size
          (Laws.registered-granted b h.size k (registered b k) short) (Laws.granted_keeps b h.size k (registered b k) short).marks (λ j l e. there j l e (f j l e)))
        where
          b' : List ℕ
          b' = with_granted b k (registered b k)

          short : length (registered b k) ≤ value_max
          short = Laws.registered_short b k

          t : ℕ
          t = w.state.head.next_token

          there : (j : ℕ) (l : Lease) → lease_on r.after j ≡ some l → ((k ≡ j → ⊥) × (lease_on w.state j ≡ some l)) ⊎ ((k ≡ j) × (l.token ≡ t))
              → NotedAs (granted b' j) (since_grant w.register w.since r.answer l.token j)
          there j l e (inl y) =
              let given = (o.leases j l y.1).0 in
              rw (since_other w.register w.since r.answer t l.token j q (λ z. omega arith), Laws.granted_other b h.size k (registered b k) short j (λ z. y.0 (sym z))) (h.grants j l y.1)
          there j l e (inr y) =
              let new : granted b' j ≡ w.register j = ap (granted b') (sym y.0) ∙ Laws.granted-same b h.size k (registered b k) short (rw y.0 (key_inside r.after j l (keys_length r.after after-sound) e)) ∙ h.register k ∙ ap w.register y.0 in
              rw (since_grant_lem w.register w.since r.answer t l.token j q y.1, new) (omega arith, refl)

-- A write: the session is marked where it is live

-- the session of number n, found inside the table or nowhere
place_live : (s : State) → sound s ≡ true → (n : ℕ) → not_live s n ≡ false → ltb (session_place s n) session_count ≡ true
place_live s h n e = let x = session_of_lem s n e in lt-ltb (session_place s n) session_count (session_place_lem s h (session_place s n) x.1)

place_dead : (s : State) → sound s ≡ true → (n : ℕ) → not_live s n ≡ true → ltb (session_place s n) session_count ≡ false
place_dead s h n e = elim (case_of (ltb (session_place s n) session_count)) [
  | inl q ↦ (let f = ltb-true (session_place s n) session_count q in
      clash (numbered n (session_of s n)) (place_passes (numbered n) no_session s.sessions (omega (arith, sessions_length s h, f))) (rw (Views.free_slot_is (session_of s n) e)))
  | inr q ↦ q
]

-- the book with the session n marked at its place
abbrev pub marked_at : List ℕ → State → ℕ → List ℕ
marked_at b s n = if ltb (session_place s n) session_count then with_mark b (session_place s n) n else b

module _ (b : List ℕ) (w : World) (h : Recorded b w) (state-sound : sound w.state ≡ true) (n : ℕ) where
  abbrev wrote_now : ℕ → Bool
  wrote_now m = eqb m n && not (not_live w.state n) || w.wrote m

  -- a book in which the session is marked
  record Marked (b' : List ℕ) : Type 0 where
    pub size : length b' ≡ book_size
    pub register : (k : ℕ) → registered b' k ≡ registered b k
    pub grants : (k : ℕ) → granted b' k ≡ granted b k
    pub marks : (i : ℕ) (x : Session) → session_at w.state i ≡ session x → eqb (mark b' i) x.number ≡ wrote_now x.number
    pub below : (i : ℕ) → i < session_count → mark b' i < w.state.head.next_session
    pub wrote : (m : ℕ) → wrote_now m ≡ true → m < w.state.head.next_session

  -- no session of that number is live
  marked_dead : not_live w.state n ≡ true → Marked b
  marked_dead e = record {
    size = h.size;
    register = λ k. refl;
    grants = λ k. refl;
    marks = λ i x p. h.marks i x p ∙ sym (was x.number);
    below = h.below;
    wrote = λ m p. h.wrote m (sym (was m) ∙ p);
  }
    where
      was : (m : ℕ) → wrote_now m ≡ w.wrote m
      was m = rw (e, and-false (eqb m n))

  -- one is, and stands at its place
  marked_live : not_live w.state n ≡ false → Marked (with_mark b (session_place w.state n) n)
  marked_live e = record {
    size = Laws.length_marked b h.size at inside n;
    register = Laws.registered-marked b h.size at inside n;
    grants = Laws.granted-marked b h.size at inside n;
    marks = λ i x p. marks i x p (case_of (eqb i at));
    below = λ i f. below i f (case_of (eqb i at));
    wrote = λ m p. wrote m p (case_of (eqb m n));
  }
    where
      at : ℕ
      at = session_place w.state n

      is : (x : Session) × (session_at w.state at ≡ session x) × (x.number ≡ n)
      is = session_of_lem w.state n e

      inside : at < session_count
      inside = session_place_lem w.state state-sound at is.1

      given : n < w.state.head.next_session
      given = rw is.2 at ((sound_means w.state state-sound).orderly.numbers at is.0 is.1)

      here : (i : ℕ) → eqb i at ≡ true → mark (with_mark b at n) i ≡ n
      here i q = rw (eqb-true i at q) (Laws.mark-same b h.size at inside n (omega (arith, given, (next_session_lem w.state state-sound).1)))

      other : (i : ℕ) → eqb i at ≡ false → mark (with_mark b at n) i ≡ mark b i
      other i q = Laws.mark_other b h.size at inside n i (eqb-false i at q)

      marks : (i : ℕ) (x : Session) → session_at w.state i ≡ session x → (eqb i at ≡ true) ⊎ (eqb i at ≡ false) → eqb (mark (with_mark b at n) i) x.number ≡ wrote_now x.number
      marks i x p (inl q) =
          let same : session x ≡ session is.0 = sym p ∙ ap (session_at w.state) (eqb-true i at q) ∙ is.1 in
          let it : x ≡ is.0 = cc in
          let number : x.number ≡ n = ap (λ (y : Session). y.number) it ∙ is.2 in
          rw (here i q, number, eq-eqb n n refl, e)
      marks i x p (inr q) =
          let apart : eqb x.number n ≡ false = ne_eqb x.number n (λ z. eqb-false i at q ((sound_means w.state state-sound).orderly.unique i at x is.0 p is.1 (z ∙ sym is.2))) in
          rw (other i q, apart) (h.marks i x p)

      below : (i : ℕ) → i < session_count → (eqb i at ≡ true) ⊎ (eqb i at ≡ false) → mark (with_mark b at n) i < w.state.head.next_session
      below i f (inl q) = rw (here i q) given
      below i f (inr q) = rw (other i q) (h.below i f)

      wrote : (m : ℕ) → wrote_now m ≡ true → (eqb m n ≡ true) ⊎ (eqb m n ≡ false) → m < w.state.head.next_session
      wrote m p (inl q) = rw (eqb-true m n q) given
      wrote m p (inr q) = h.wrote m (rw q at p)

  marked_is : Marked (marked_at b w.state n)
  marked_is = elim (case_of (not_live w.state n)) [
    | inl e ↦ rw (place_dead w.state state-sound n e) (marked_dead e)
    | inr e ↦ rw (place_live w.state state-sound n e) (marked_live e)
  ]

  pub recorded-written : (k : ℕ) (v : Value) → k < key_count → length v ≤ value_max → Recorded (with_registered (marked_at b w.state n) k v) (written w n k v)
  unfolding written
  recorded-written k v small short = record {
    size = (Laws.registered_keeps b' m.size k v short).size;
    register = λ j. register j (case_of (eqb j k));
    grants = λ j l e. grants j l e (case_of (eqb j k));
    marks = λ i x e. rw ((Laws.registered_keeps b' m.size k v short).marks i) (m.marks i x e);
    below = λ i f. rw ((Laws.registered_keeps b' m.size k v short).marks i) (m.below i f);
    wrote = m.wrote;
  }
    where
      b' : List ℕ
      b' = marked_at b w.state n

      m : Marked b'
      m = marked_is

      register : (j : ℕ) → (eqb j k ≡ true) ⊎ (eqb j k ≡ false) → registered (with_registered b' k v) j ≡ (if eqb j k then v else w.register j)
      register j (inl q) = rw q (rw (eqb-true j k q) (Laws.registered-same b' m.size k v short small))
      register j (inr q) = rw q (Laws.registered_other b' m.size k v short j (eqb-false j k q) ∙ m.register j ∙ h.register j)

      -- the oldest stays, whatever is written
      older : (l : List Value) (u : Value) → NotedAs u l → NotedAs u (v ∷ l)
      older l u p = (omega arith, p.1 ∙ oldest-any [] v l p.0)

      grants : (j : ℕ) (l : Lease) → lease_on w.state j ≡ some l → (eqb j k ≡ true) ⊎ (eqb j k ≡ false)
          → NotedAs (granted (with_registered b' k v) j) (if eqb j k then v ∷ w.since l.token j else w.since l.token j)
      grants j l e (inl q) = rw (q, Laws.granted-registered b' m.size k v short j, m.grants j) (older (w.since l.token j) (granted b j) (h.grants j l e))
      grants j l e (inr q) = rw (q, Laws.granted-registered b' m.size k v short j, m.grants j) (h.grants j l e)
