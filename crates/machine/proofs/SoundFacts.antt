-- What a sound state promises, by name: bounds of each field, so that code which finds an entry knows its numbers' ranges.
-- Each law is a field of the record that `sound_means` gives; a place that is not free lies inside its table.
use mathlib.Core.Path.{◌≡◌}
use mathlib.Core.Bool.{true}
use mathlib.Core.Option.{some}
use Prim.Native.Nat.{ℕ, ◌+◌, ◌≤◌, ◌<◌}
use native.Mathlib.Omega.{arith}
use Rattle.machine.specs.Sizes.{session_count, row_count, step_max, life_max, time_max, number_max}
use Rattle.machine.specs.State.{Value, Lease, session, Staged, row, State, session_at, row_at, cached, lease_on}
use Rattle.machine.specs.Sound.{sound}
use Rattle.machine.specs.WellFormed.{Fine, Within, StagedFits, LiveAs}
use Rattle.machine.specs.Words.{INVALIDATE, INCREMENTAL}
use Rattle.machine.specs.declared.Life.{Life}
use Rattle.machine.specs.declared.Session.{Session}
use Rattle.machine.proofs.SoundMeans.{session_inside, row_inside, sessions_length, rows_length, sound_means}

module _ (s : State) (e : sound s ≡ true) where
  -- the head
  pub clock_bound : s.head.clock ≤ time_max
  clock_bound = (sound_means s e).head.time

  pub read_life_lem : Within 1 life_max s.head.read_life
  read_life_lem = (sound_means s e).head.read_life

  pub write_life_lem : Within 1 life_max s.head.write_life
  write_life_lem = (sound_means s e).head.write_life

  pub next_session_lem : Within 1 number_max s.head.next_session
  next_session_lem = (sound_means s e).head.next_session

  pub next-token : Within 1 number_max s.head.next_token
  next-token = (sound_means s e).head.next_token

  -- a cached value, and an I lease
  pub value_fine : (k : ℕ) {v : Value} → cached s k ≡ some v → Fine v
  value_fine k p = (sound_means s e).keys.values k p

  pub lease_token : (k : ℕ) {l : Lease} → lease_on s k ≡ some l → (1 ≤ l.token) × (l.token < s.head.next_token)
  lease_token k {l} p = (((sound_means s e).keys.leases k p).positive, ((sound_means s e).orderly.leases k l p).0)

  pub lease_until_lem : (k : ℕ) {l : Lease} → lease_on s k ≡ some l → l.until ≤ s.head.clock + s.head.read_life
  lease_until_lem k p = ((sound_means s e).keys.leases k p).deadline

  -- a session
  pub session_place_lem : (i : ℕ) {x : Session} → session_at s i ≡ session x → i < session_count
  session_place_lem i {x} p = session_inside s i x (sessions_length s e) p

  pub session_number : (i : ℕ) {x : Session} → session_at s i ≡ session x → (1 ≤ x.number) × (x.number < s.head.next_session)
  session_number i {x} p = (((sound_means s e).sessions.each i p).positive, (sound_means s e).orderly.numbers i x p)

  pub session_count_lem : (i : ℕ) {x : Session} → session_at s i ≡ session x → x.count ≤ step_max
  session_count_lem i p = ((sound_means s e).sessions.each i p).steps

  pub session_until : (i : ℕ) {x : Session} {t : ℕ} → session_at s i ≡ session x → x.life ≡ Life.Open t → t ≤ s.head.clock + s.head.write_life
  session_until i {t} p q = ((sound_means s e).sessions.each i p).deadline t q

  pub numbers-distinct : (i j : ℕ) (x y : Session) → session_at s i ≡ session x → session_at s j ≡ session y → x.number ≡ y.number → i ≡ j
  numbers-distinct = (sound_means s e).orderly.unique

  -- a Q row
  pub row_place_lem : (i : ℕ) {n k d : ℕ} {u : Staged} → row_at s i ≡ row n k d u → i < row_count
  row_place_lem i {n} {k} {d} {u} p = row_inside s i n k d u (rows_length s e) p

  row_live : (i : ℕ) {n k d : ℕ} {u : Staged} → row_at s i ≡ row n k d u → LiveAs s.sessions n
  row_live i p = (sound_means s e).live i p

  pub row_number : (i : ℕ) {n k d : ℕ} {u : Staged} → row_at s i ≡ row n k d u → (1 ≤ n) × (n < s.head.next_session)
  row_number i p = let x = row_live i p in let y = session_number x.place x.is in let z = x.number in (omega (arith, y.0), omega (arith, y.1))

  pub row_kind_lem : (i : ℕ) {n k d : ℕ} {u : Staged} → row_at s i ≡ row n k d u → Within INVALIDATE INCREMENTAL d
  row_kind_lem i {n} {k} {d} {u} p = (sound_means s e).orderly.kinds i n k d u p

  pub row_staged : (i : ℕ) {n k d : ℕ} {u : Staged} → row_at s i ≡ row n k d u → StagedFits d u
  row_staged i p = ((sound_means s e).rows.each i p).what
