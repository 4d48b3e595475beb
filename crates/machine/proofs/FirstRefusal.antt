-- The first refusal of each command, on any state: each test of the command's list is decided in the list's order, by what the code asks at that
-- place. The functions of the commands ask it of the state as it is, and the search for a refusal of the state after expiry.
use Rattle.std.specs.Prelude.{if◌then◌else◌}
use mathlib.Core.Path.{◌≡◌}
use mathlib.Core.Bool.{true, false, not, ◌&&◌, ◌||◌, and-false, and-true, or-true}
use mathlib.Core.Option.{none, some}
use Prim.Native.Nat.{ℕ, ◌≤◌, ◌<◌}
use lib.Dec.{eqb, ltb}
use lib.ListN.{length}
use borrow.Author.Tests.{le-leb, lt-leb, le-ltb, lt-ltb}
use Rattle.machine.specs.Sizes.{key_count, value_max, step_max, time_max, number_max}
use Rattle.machine.specs.Tables.{first}
use Rattle.machine.specs.Words.{CLOCK, ARG, LONG, NO-SESSION, SEALED, NOT-SEALED, FULL, ROOM, NUMBERS, REFRESH, INCREMENTAL, is_kind, is_operation}
use Rattle.machine.specs.Session.{is_sealed}
use Rattle.machine.specs.State.{Value, no_session, session, State, session_of}
use Rattle.machine.specs.Refusals.{would_lease, would_grant, bad_key, not_live, sessions_full, rows_full, staging_refusals, refusals, refusal}
use Rattle.machine.specs.declared.Session.{Session}
use Rattle.machine.specs.declared.Command.{Command}
use Rattle.machine.specs.declared.Command.TheVariants.{Begin, Get, Fill, Quar, Stage, Delta, Validate, Done, Undo, Evict}

-- ---- CLOCK

module _ (s : State) (now : ℕ) (c : Command) (v : Value) where
  pub clock_before : now < s.head.clock → refusal s now c v ≡ some CLOCK
  unfolding refusal
  clock_before h = rw (lt-ltb now s.head.clock h)

  pub clock_past : time_max < now → refusal s now c v ≡ some CLOCK
  unfolding refusal
  clock_past h = rw (lt-ltb time_max now h, or-true (ltb now s.head.clock))

  pub clock_none : s.head.clock ≤ now → now ≤ time_max → refusal s now c v ≡ first (refusals s c v)
  unfolding refusal
  clock_none h l = rw (le-ltb now s.head.clock h, le-ltb time_max now l)

-- ---- BEGIN

module _ (s : State) (v : Value) where
  pub begin_full : sessions_full s ≡ true → first (refusals s Begin v) ≡ some FULL
  unfolding refusals
  begin_full e = rw e

  module _ (e : sessions_full s ≡ false) where
    pub begin_numbers : number_max ≤ s.head.next_session → first (refusals s Begin v) ≡ some NUMBERS
    unfolding refusals
    begin_numbers h = rw (e, le-leb number_max s.head.next_session h)

    pub begin_none : s.head.next_session < number_max → first (refusals s Begin v) ≡ none
    unfolding refusals
    begin_none h = rw (e, lt-leb number_max s.head.next_session h)

-- ---- GET

module _ (s : State) (n k : ℕ) (v : Value) where
  pub get_key : key_count ≤ k → first (refusals s (Get n k) v) ≡ some ARG
  unfolding refusals
  get_key h = rw (le-leb key_count k h)

  module _ (a : k < key_count) where
    pub get_unknown : (not (eqb n 0) && not_live s n) ≡ true → first (refusals s (Get n k) v) ≡ some NO-SESSION
    unfolding refusals
    get_unknown e = rw (lt-leb key_count k a, e)

    module _ (e : (not (eqb n 0) && not_live s n) ≡ false) where
      pub get_numbers : would_lease s n k ≡ true → number_max ≤ s.head.next_token → first (refusals s (Get n k) v) ≡ some NUMBERS
      unfolding refusals
      get_numbers w h = rw (lt-leb key_count k a, e, w, le-leb number_max s.head.next_token h)

      pub get_token : s.head.next_token < number_max → first (refusals s (Get n k) v) ≡ none
      unfolding refusals
      get_token h = rw (lt-leb key_count k a, e, lt-leb number_max s.head.next_token h, and-false (would_lease s n k))

      pub get_unleased : would_lease s n k ≡ false → first (refusals s (Get n k) v) ≡ none
      unfolding refusals
      get_unleased w = rw (lt-leb key_count k a, e, w)

-- ---- FILL

module _ (s : State) (t k : ℕ) (v : Value) where
  pub fill_key : key_count ≤ k → first (refusals s (Fill t k) v) ≡ some ARG
  unfolding refusals
  fill_key h = rw (le-leb key_count k h)

  module _ (a : k < key_count) where
    pub fill_long : value_max < length v → first (refusals s (Fill t k) v) ≡ some LONG
    unfolding refusals
    fill_long h = rw (lt-leb key_count k a, lt-ltb value_max (length v) h)

    pub fill_none : length v ≤ value_max → first (refusals s (Fill t k) v) ≡ none
    unfolding refusals
    fill_none h = rw (lt-leb key_count k a, le-ltb value_max (length v) h)

-- ---- QUAR

module _ (s : State) (n k kind : ℕ) (v : Value) where
  pub quar_key : key_count ≤ k → first (refusals s (Quar n k kind) v) ≡ some ARG
  unfolding refusals
  quar_key h = rw (le-leb key_count k h)

  pub quar_kind : is_kind kind ≡ false → first (refusals s (Quar n k kind) v) ≡ some ARG
  unfolding refusals
  quar_kind e = rw (e, or-true (bad_key k))

  module _ (a : k < key_count) (d : is_kind kind ≡ true) where
    pub quar_not_live : session_of s n ≡ no_session → first (refusals s (Quar n k kind) v) ≡ some NO-SESSION
    unfolding refusals
    quar_not_live e = rw (lt-leb key_count k a, d, e)

    module _ (x : Session) (e : session_of s n ≡ session x) where
      pub quar_sealed : is_sealed x ≡ true → first (refusals s (Quar n k kind) v) ≡ some SEALED
      unfolding refusals
      quar_sealed t = rw (lt-leb key_count k a, d, e, t)

      module _ (t : is_sealed x ≡ false) where
        pub quar_room : rows_full s ≡ false → first (refusals s (Quar n k kind) v) ≡ none
        unfolding refusals
        quar_room f = rw (lt-leb key_count k a, d, e, t, f, and-false (would_grant s n k kind))

        pub quar_full : rows_full s ≡ true → first (refusals s (Quar n k kind) v) ≡ (if would_grant s n k kind then some ROOM else none)
        unfolding refusals
        quar_full f = rw (lt-leb key_count k a, d, e, t, f, and-true (would_grant s n k kind))

-- ---- STAGE and DELTA

pub staging_not_live : (s : State) (n step k kind : ℕ) → session_of s n ≡ no_session → first (staging_refusals s n step k kind) ≡ some NO-SESSION
staging_not_live s n step k kind e = rw e

module _ (s : State) (n step k : ℕ) (v : Value) where
  pub stage_key : key_count ≤ k → first (refusals s (Stage n step k) v) ≡ some ARG
  unfolding refusals
  stage_key h = rw (le-leb key_count k h)

  pub stage_step : step_max ≤ step → first (refusals s (Stage n step k) v) ≡ some ARG
  unfolding refusals
  stage_step h = rw (le-leb step_max step h, or-true (bad_key k))

  module _ (a : k < key_count) (b : step < step_max) where
    pub stage_long : value_max < length v → first (refusals s (Stage n step k) v) ≡ some LONG
    unfolding refusals
    stage_long h = rw (lt-leb key_count k a, lt-leb step_max step b, lt-ltb value_max (length v) h)

    pub stage_staging : length v ≤ value_max → first (refusals s (Stage n step k) v) ≡ first (staging_refusals s n step k REFRESH)
    unfolding refusals
    stage_staging h = rw (lt-leb key_count k a, lt-leb step_max step b, le-ltb value_max (length v) h)

module _ (s : State) (n step k operation : ℕ) (v : Value) where
  pub delta_key : key_count ≤ k → first (refusals s (Delta n step k operation) v) ≡ some ARG
  unfolding refusals
  delta_key h = rw (le-leb key_count k h)

  pub delta_operation : is_operation operation ≡ false → first (refusals s (Delta n step k operation) v) ≡ some ARG
  unfolding refusals
  delta_operation e = rw (e, or-true (bad_key k))

  pub delta_step : step_max ≤ step → first (refusals s (Delta n step k operation) v) ≡ some ARG
  unfolding refusals
  delta_step h = rw (le-leb step_max step h, or-true (bad_key k || not (is_operation operation)))

  module _ (a : k < key_count) (o : is_operation operation ≡ true) (b : step < step_max) where
    pub delta_long : value_max < length v → first (refusals s (Delta n step k operation) v) ≡ some LONG
    unfolding refusals
    delta_long h = rw (lt-leb key_count k a, o, lt-leb step_max step b, lt-ltb value_max (length v) h)

    pub delta_staging : length v ≤ value_max → first (refusals s (Delta n step k operation) v) ≡ first (staging_refusals s n step k INCREMENTAL)
    unfolding refusals
    delta_staging h = rw (lt-leb key_count k a, o, lt-leb step_max step b, le-ltb value_max (length v) h)

-- ---- VALIDATE

module _ (s : State) (n m : ℕ) (v : Value) where
  pub validate_steps : step_max < m → first (refusals s (Validate n m) v) ≡ some ARG
  unfolding refusals
  validate_steps h = rw (lt-ltb step_max m h)

  module _ (a : m ≤ step_max) where
    pub validate_not_live : session_of s n ≡ no_session → first (refusals s (Validate n m) v) ≡ some NO-SESSION
    unfolding refusals
    validate_not_live e = rw (le-ltb step_max m a, e)

    pub validate_live : (x : Session) → session_of s n ≡ session x → first (refusals s (Validate n m) v) ≡ (if is_sealed x && not (eqb m x.count) then some SEALED else none)
    unfolding refusals
    validate_live x e = rw (le-ltb step_max m a, e)

-- ---- DONE and UNDO

module _ (s : State) (n : ℕ) (v : Value) where
  pub done_not_live : session_of s n ≡ no_session → first (refusals s (Done n) v) ≡ some NO-SESSION
  unfolding refusals
  done_not_live e = rw e

  pub undo_not_live : session_of s n ≡ no_session → first (refusals s (Undo n) v) ≡ some NO-SESSION
  unfolding refusals
  undo_not_live e = rw e

  module _ (x : Session) (e : session_of s n ≡ session x) where
    pub done_open : is_sealed x ≡ false → first (refusals s (Done n) v) ≡ some NOT-SEALED
    unfolding refusals
    done_open t = rw (e, t)

    pub done_none : is_sealed x ≡ true → first (refusals s (Done n) v) ≡ none
    unfolding refusals
    done_none t = rw (e, t)

    pub undo_none : first (refusals s (Undo n) v) ≡ none
    unfolding refusals
    undo_none = rw e

-- ---- EVICT

module _ (s : State) (k : ℕ) (v : Value) where
  pub evict_key : key_count ≤ k → first (refusals s (Evict k) v) ≡ some ARG
  unfolding refusals
  evict_key h = rw (le-leb key_count k h)

  pub evict_none : k < key_count → first (refusals s (Evict k) v) ≡ none
  unfolding refusals
  evict_none h = rw (lt-leb key_count k h)
