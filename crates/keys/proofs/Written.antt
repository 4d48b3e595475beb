-- Token and deadline stand side by side, so that the two stores write one lease; and a value put on a key, the lease cleared after it, makes
-- the record that FILL leaves.
use mathlib.Core.Path.{◌≡◌}
use mathlib.Core.List.{List}
use mathlib.Core.Option.{none, some}
use Prim.Native.Nat.{ℕ, ◌+◌, ◌*◌, ◌≤◌, ◌<◌, ◌^◌}
use native.Mathlib.Omega.{arith}
use lib.ListN.{length, get_or, set}
use lib.Seq.{get_or-set_same, set-set}
use Rattle.lent.specs.Bytes.{bytes32, bytes64, splice, zeros}
use Rattle.lent.proofs.Splice.{splice-next}
use Rattle.machine.specs.Sizes.{key_count, keys_from, key_width}
use Rattle.machine.specs.State.{Value, State, blank}
use Rattle.machine.specs.Expiry.{with_keys, set_value, set_lease}
use Rattle.layout.specs.Holds.{Holds}
use Rattle.layout.proofs.Formed.{holds_size}
use Rattle.layout.proofs.Parts.{lease_put}

module _ {b : List ℕ} {s : State} (h : Holds b s) (k : ℕ) (l : k < key_count) where
  -- token, then deadline
  pub lease_written : (t u : ℕ) → 1 ≤ t → t < 2 ^ 32 → u < 2 ^ 64
      → Holds (splice (splice b (keys_from + k * key_width + 4) (bytes32 t)) (keys_from + k * key_width + 8) (bytes64 u)) (with_keys s (set_lease s.keys k (some (record { token = t; until = u }))))
  lease_written t u g m n =
      let e : keys_from + k * key_width + 8 ≡ keys_from + k * key_width + 4 + 4 = omega arith in
      rw (e, splice-next b (bytes32 t) (bytes64 u) (keys_from + k * key_width + 4) 4 (omega arith) (omega (arith, holds_size h)))
      (lease_put h k l (some (record { token = t; until = u })) (record { given = g; token = m; until = n }))

  -- the lease removed, once the value is written
  pub value_filled : (v : Value) {c : List ℕ} → Holds c (with_keys s (set_value s.keys k (some v)))
      → Holds (splice c (keys_from + k * key_width + 4) (zeros 12)) (with_keys s (set s.keys k (record { value = some v; lease = none })))
  value_filled v g =
      let m : k < length s.keys = rw h.fits.keys l in
      rw (get_or-set_same s.keys k (record { value = some v; lease = (get_or s.keys k blank).lease }) blank m, set-set) at (lease_put g k l none tt)
