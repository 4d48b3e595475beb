-- A sound state fits its bytes: its tables have their lengths, and each number lies below a limit that its bytes can say.
use mathlib.Core.Path.{◌≡◌, refl}
use mathlib.Core.Bool.{true}
use mathlib.Core.Option.{Option, none, some}
use Prim.Native.Nat.{ℕ, ◌<◌, ◌^◌}
use native.Mathlib.Omega.{arith}
use Rattle.lent.proofs.Tables.{at_each}
use Rattle.machine.specs.State.{Value, Lease, Slot, no_session, session, Staged, nothing, staged, DROP, Row, no_row, row, State, blank, session_at, row_at, cached, lease_on}
use Rattle.machine.specs.Sound.{sound}
use Rattle.machine.specs.declared.Life.{Life}
use Rattle.machine.specs.declared.Session.{Session}
use Rattle.machine.proofs.SoundMeans.{keys_length, sessions_length, rows_length}
use Rattle.machine.proofs.SoundFacts.{clock_bound, read_life_lem, write_life_lem, next_session_lem, next-token, value_fine, lease_token, lease_until_lem, session_number, session_count_lem, session_until, row_number, row_staged}
use Rattle.layout.specs.Layout.{life_time}
use Rattle.layout.specs.Holds.{HeadFits, ValueFits, LeaseFits, KeyFits, SlotFits, StagedFits, RowFits, Fits}

module _ (s : State) (e : sound s ≡ true) where
  head_fits : HeadFits s.head
  head_fits = record {
    clock = omega (arith, clock_bound s e);
    read_life = omega (arith, (read_life_lem s e).1);
    write_life = omega (arith, (write_life_lem s e).1);
    next_session = omega (arith, (next_session_lem s e).1);
    next_token = omega (arith, (next-token s e).1);
  }

  value_fits : (k : ℕ) (o : Option Value) → cached s k ≡ o → ValueFits o
  value_fits k none p = tt
  value_fits k (some v) p = (value_fine s e k p).short

  lease_fits : (k : ℕ) (o : Option Lease) → lease_on s k ≡ o → LeaseFits o
  lease_fits k none p = tt
  lease_fits k (some l) p = let g = lease_token s e k p in
      record { given = g.0; token = omega (arith, g.1, (next-token s e).1); until = omega (arith, lease_until_lem s e k p, clock_bound s e, (read_life_lem s e).1) }

  life_fits : (i : ℕ) (x : Session) (l : Life) → session_at s i ≡ session x → x.life ≡ l → life_time l < 2 ^ 64
  life_fits i x (Life.Open t) p q = omega (arith, session_until s e i p q, clock_bound s e, (write_life_lem s e).1)
  life_fits i x Life.Sealed p q = omega arith

  slot_fits : (i : ℕ) (x : Slot) → session_at s i ≡ x → SlotFits x
  slot_fits i no_session p = tt
  slot_fits i (session x) p = let g = session_number s e i p in
      record { given = g.0; number = omega (arith, g.1, (next_session_lem s e).1); count = omega (arith, session_count_lem s e i p); until = life_fits i x x.life p refl }

  staged_fits : (i n k d : ℕ) (u : Staged) → row_at s i ≡ row n k d u → StagedFits u
  staged_fits i n k d nothing p = tt
  staged_fits i n k d (staged v) p = (row_staged s e i p).1.short
  staged_fits i n k d DROP p = tt

  row_fits : (i : ℕ) (r : Row) → row_at s i ≡ r → RowFits r
  row_fits i no_row p = tt
  row_fits i (row n k d u) p = let g = row_number s e i p in
      record { given = g.0; session = omega (arith, g.1, (next_session_lem s e).1); staged = staged_fits i n k d u p }

  pub sound-fits : Fits s
  sound-fits = record {
    head = head_fits;
    keys = keys_length s e;
    sessions = sessions_length s e;
    rows = rows_length s e;
    each_key = at_each KeyFits s.keys blank (λ k p. record { value = value_fits k (cached s k) refl; lease = lease_fits k (lease_on s k) refl });
    each_session = at_each SlotFits s.sessions no_session (λ i p. slot_fits i (session_at s i) refl);
    each_row = at_each RowFits s.rows no_row (λ i p. row_fits i (row_at s i) refl);
  }
