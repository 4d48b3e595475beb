-- Who is left of a number after expiry, told by what the search for the number finds before it; and what that one finds who stages:
-- whoever is left has the record and the rows that he had, so his refusals are those on the state as it is,
-- those of VALIDATE too.
use Rattle.std.specs.Prelude.{if◌then◌else◌, Some, None, Option as Found, Result, Ok, Err, is_some}
use mathlib.Core.Path.{◌≡◌, refl, sym, ap, ◌∙◌}
use mathlib.Core.Bool.{Bool, true, false, not, ◌&&◌}
use mathlib.Core.List.{[]}
use mathlib.Core.Option.{Option, none, some}
use Prim.Native.Nat.{ℕ, ◌≤◌}
use lib.Dec.{eqb, ltb}
use Rattle.lent.proofs.Choices.{zero_one, clash}
use Rattle.machine.specs.Sizes.{session_count, step_max}
use Rattle.machine.specs.Tables.{first}
use Rattle.machine.specs.Session.{is_due, advanced, sealed, is_sealed, validation_of}
use Rattle.machine.specs.State.{Slot, no_session, session, State, session_place, session_of, session_at, row_place, row_of}
use Rattle.machine.specs.Expiry.{expire}
use Rattle.machine.specs.Sound.{sound}
use Rattle.machine.specs.Refusals.{count_of, staging_refusals, refusals}
use Rattle.machine.specs.Words.{SEALED}
use Rattle.machine.specs.declared.Session.{Session}
use Rattle.machine.specs.declared.Validation.{Validation}
use Rattle.machine.specs.declared.Command.TheVariants.{Validate}
use Rattle.machine.proofs.FirstRefusal.{validate_live}
use Rattle.machine.proofs.SoundMeans.{sessions_length}
use Rattle.layout.specs.Fields.{session_in}
use Rattle.layout.specs.Search.{found}
use Rattle.layout.proofs.Slots.{session_by}
use Rattle.stages.specs.Staging.{or_else, staging_of}
use Rattle.stages.specs.declared.Staging.{Staging}
use Rattle.deadlines.specs.Deadlines.{due_slot}
use Rattle.sweep.specs.Lapsing.{free_due}
use Rattle.refusals.specs.Left.{left_of}
use Rattle.refusals.specs.Met.{refusal_of}
use Rattle.machine.specs.declared.Refusal.{Refusal}
use Rattle.refusals.proofs.Expired.{due_freed_was, session_expired, row_expired}

-- ---- what the code is told

-- it tells the refusal o, which is that of the definition
pub meets : {o p : Option Refusal} → p ≡ o → refusal_of o ≡ refusal_of p
meets e = ap refusal_of (sym e)

-- r, the code's word for what is left at e, is that x is, or that nobody is
pub left_is : (e : Slot) {r : Found Session} {x : Session} → r ≡ left_of e → r ≡ Some x → e ≡ session x
left_is no_session p q = zero_one cc
left_is (session y) {x = x} p q = let f : y ≡ x = cc in ap session f

pub left_nobody : (e : Slot) {r : Found Session} → r ≡ left_of e → r ≡ None → e ≡ no_session
left_nobody no_session p q = refl
left_nobody (session y) p q = zero_one cc

-- the same, where it is only asked whether it is one
pub left_open : (e : Slot) {r : Found Session} → r ≡ left_of e → is_some r ≡ true → (x : Session) × (e ≡ session x)
left_open no_session {r = r} p q = clash (is_some r) q (ap is_some p)
left_open (session x) p q = (x, refl)

pub left_shut : (e : Slot) {r : Found Session} → r ≡ left_of e → is_some r ≡ false → e ≡ no_session
left_shut no_session p q = refl
left_shut (session x) {r = r} p q = clash (is_some r) (ap is_some p) q

-- the refusal in what a session that stages has found, and in what VALIDATE has
abbrev pub refusal_in : Result Staging Refusal → Result Unit Refusal
refusal_in (Err e) = Err e
refusal_in (Ok x) = Ok tt

abbrev pub clash_in : Validation → Result Unit Refusal
clash_in (Validation.Seals x) = Ok tt
clash_in Validation.Loses = Ok tt
clash_in Validation.Clashes = Err SEALED

told-by : (o : Option Refusal) (t : Bool) (i j : ℕ) (x : Session) → refusal_of o ≡ refusal_in (or_else o (if t then Staging.Repeated else Staging.At i j x))
told-by none true i j x = refl
told-by none false i j x = refl
told-by (some e) t i j x = refl

pub validates : (t : State) (n m : ℕ) (x : Session) {r : Validation} → session_of t n ≡ session x → m ≤ step_max → validation_of x m ≡ r → clash_in r ≡ refusal_of (first (refusals t (Validate n m) []))
validates t n m x e h q = sym (ap refusal_of (validate_live t n m [] h x e) ∙ go (is_sealed x) (eqb m x.count) ∙ ap clash_in q)
  where
    go : (u t : Bool) → refusal_of (if u && not t then some SEALED else none) ≡ clash_in (if t then Validation.Seals (sealed x) else if u then Validation.Clashes else Validation.Loses)
    go true true = refl
    go true false = refl
    go false true = refl
    go false false = refl

module _ (s : State) (ok : sound s ≡ true) (now n : ℕ) where
  -- ---- what the search for the number finds

  pub left-none : found session_count (session_place s n) ≡ None → session_of (expire now s) n ≡ no_session
  left-none f = session_expired s ok now n ∙ ap (free_due now) (session_by s n (sessions_length s ok) f)

  -- x stands where it was found
  pub left_by : {i : ℕ} {x : Session} {t : Bool} → found session_count (session_place s n) ≡ Some i → x ≡ session_in (session_at s i) → is_due now x ≡ t
      → session_of (expire now s) n ≡ (if t then no_session else session x)
  left_by f e d = session_expired s ok now n ∙ ap (free_due now) (session_by s n (sessions_length s ok) f) ∙ rw (← e, d)

  -- ---- who is left

  module _ (x : Session) (e : session_of (expire now s) n ≡ session x) where
    left_was : (session_of s n ≡ session x) × (is_due now x ≡ false)
    left_was = due_freed_was now (session_of s n) x (sym (session_expired s ok now n) ∙ e)

    pub left_row : (k : ℕ) → row_of (expire now s) n k ≡ row_of s n k
    left_row k = row_expired s ok now n k (ap (due_slot now) left_was.0 ∙ left_was.1)

    pub left-stages : (step k kind : ℕ) {r : Result Staging Refusal} → staging_of s n step k kind ≡ r → refusal_in r ≡ refusal_of (first (staging_refusals (expire now s) n step k kind))
    unfolding staging_of
    left-stages step k kind q = sym (told ∙ ap refusal_in q)
      where
        told : refusal_of (first (staging_refusals (expire now s) n step k kind)) ≡ refusal_in (staging_of s n step k kind)
        told =
            rw (left_row k, e ∙ sym left_was.0)
            (told-by (first (staging_refusals s n step k kind)) (ltb step (count_of s n)) (session_place s n) (row_place s n k) (advanced (session_in (session_of s n))))
