-- A place of the session table in the bytes: its fields where they stand, and its number, which tells a free place and a session apart since no
-- session has the number 0. So a search of the bytes by a number is a search of the table.
use Rattle.std.specs.Prelude.{Some, None}
use mathlib.Core.Path.{◌≡◌, refl, sym, ◌∙◌}
use mathlib.Core.Bool.{Bool, false}
use mathlib.Core.List.{List, [], ◌∷◌, ◌++◌}
use Prim.Native.Nat.{ℕ, ◌+◌, ◌*◌, ◌≤◌, ◌<◌}
use native.Mathlib.Omega.{arith}
use lib.Dec.{eqb}
use lib.ListN.{length, get_or, set}
use borrow.Author.Tests.{ne_eqb}
use Rattle.lent.specs.Bytes.{le16, bytes16, le32, bytes32, le64, bytes64, splice, win}
use Rattle.lent.specs.Tables.{first}
use Rattle.lent.proofs.Numbers.{width16, width32, width64, le_front, le-win}
use Rattle.lent.proofs.Splice.{get_or-win, splice-next}
use Rattle.machine.specs.Sizes.{session_count, sessions_from, session_width}
use Rattle.machine.specs.Tables.{place}
use Rattle.machine.specs.State.{Slot, no_session, session, State, free, numbered, session_at, session_place}
use Rattle.machine.specs.Sound.{number_in}
use Rattle.machine.specs.declared.Life.{Life}
use Rattle.machine.specs.declared.Session.{Session}
use Rattle.machine.specs.Expiry.{with_sessions}
use Rattle.layout.specs.Layout.{enc_session, life_mark, life_time, dec_life, session_from}
use Rattle.layout.specs.Holds.{Live, SlotFits, Holds}
use Rattle.layout.specs.Search.{found, starts_with}
use Rattle.layout.proofs.Held.{number_held, session_stands}
use Rattle.layout.proofs.Formed.{holds_size}
use Rattle.layout.proofs.Search.{first_held, found_none}

-- ---- fields

module _ (b : List ℕ) (a : ℕ) where
  pub life_sealed : get_or b (a + 4) 0 ≡ 2 → dec_life (win b a session_width) ≡ Life.Sealed
  life_sealed e = rw (get_or-win b a session_width 4 (omega arith) ∙ e)

  pub life_open : (get_or b (a + 4) 0 ≡ 2 → ⊥) → dec_life (win b a session_width) ≡ Life.Open (le64 b (a + 8))
  life_open n =
      rw (get_or-win b a session_width 4 (omega arith), ne_eqb (get_or b (a + 4) 0) 2 n, le-win width64 b a session_width 8 (omega arith))

  pub session_loaded : session_from (win b a session_width) ≡ record { number = le32 b a; life = dec_life (win b a session_width); count = le16 b (a + 6) }
  session_loaded = rw (le_front width32 b a session_width (omega arith), le-win width16 b a session_width 6 (omega arith))

-- the four stores of a session, one behind the other
session_written : (b : List ℕ) (a n m c t : ℕ) → a + session_width ≤ length b
    → splice (splice (splice (splice b a (bytes32 n)) (a + 4) (m ∷ 0 ∷ [])) (a + 6) (bytes16 c)) (a + 8) (bytes64 t) ≡ splice b a (bytes32 n ++ (m ∷ 0 ∷ (bytes16 c ++ bytes64 t)))
session_written b a n m c t l =
    rw (splice-next b (bytes32 n) (m ∷ 0 ∷ []) a 4 refl (omega arith), splice-next b (bytes32 n ++ (m ∷ 0 ∷ [])) (bytes16 c) a 6 refl (omega arith))
    (splice-next b (bytes32 n ++ (m ∷ 0 ∷ []) ++ bytes16 c) (bytes64 t) a 8 refl (omega arith))

-- so the place holds it
pub session_stored : {b : List ℕ} {s : State} → Holds b s → (i : ℕ) → i < session_count → (x : Session) → Live x → (m t : ℕ) (c d e f : List ℕ)
    → m ≡ life_mark x.life → t ≡ life_time x.life
    → c ≡ splice b (sessions_from + i * session_width) (bytes32 x.number) → d ≡ splice c (sessions_from + i * session_width + 4) (m ∷ 0 ∷ [])
    → e ≡ splice d (sessions_from + i * session_width + 6) (bytes16 x.count) → f ≡ splice e (sessions_from + i * session_width + 8) (bytes64 t)
    → Holds f (with_sessions s (set s.sessions i (session x)))
unfolding enc_session
session_stored {b} h i l x g m t c d e f em et ec ed ee ef =
    rw (ef, ee, ed, ec, em, et, session_written b (sessions_from + i * session_width) x.number (life_mark x.life) x.count (life_time x.life) (omega (arith, holds_size h)))
    ((session_stands h i l).store (session x) g)

-- ---- numbers

number-free : (e : Slot) → SlotFits e → eqb (number_in e) 0 ≡ free e
number-free no_session f = refl
number-free (session x) f = ne_eqb x.number 0 (λ q. omega (arith, q, f.given))

numbered_is : (n : ℕ) (e : Slot) → (n ≡ 0 → ⊥) → eqb (number_in e) n ≡ numbered n e
numbered_is n no_session z = ne_eqb 0 n (λ q. z (sym q))
numbered_is n (session x) z = refl

numbered-zero : (e : Slot) → SlotFits e → numbered 0 e ≡ false
numbered-zero no_session f = refl
numbered-zero (session x) f = ne_eqb x.number 0 (λ q. omega (arith, q, f.given))

-- ---- searches

module _ {b : List ℕ} {s : State} (h : Holds b s) where
  -- by a test of a place that its number decides
  number_search : (p : Slot → Bool) (n : ℕ) → ((e : Slot) → SlotFits e → eqb (number_in e) n ≡ p e)
      → first (starts_with b sessions_from session_width n) Some None 0 session_count ≡ found session_count (place p s.sessions)
  number_search p n q =
      first_held p no_session (starts_with b sessions_from session_width n) s.sessions session_count h.fits.sessions (λ i l.
      rw (number_held h i l) (q (session_at s i) (session_stands h i l).fits))

  pub session_search : (n : ℕ) → (n ≡ 0 → ⊥) → first (starts_with b sessions_from session_width n) Some None 0 session_count ≡ found session_count (session_place s n)
  session_search n z = number_search (numbered n) n (λ e f. numbered_is n e z)

  pub free_search : first (starts_with b sessions_from session_width 0) Some None 0 session_count ≡ found session_count (place free s.sessions)
  free_search = number_search free 0 number-free

  pub none-zero : found session_count (session_place s 0) ≡ None
  none-zero = found_none (numbered 0) no_session s.sessions session_count h.fits.sessions (λ i l. numbered-zero (session_at s i) (session_stands h i l).fits)
