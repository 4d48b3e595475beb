-- A record that is read from w bytes is written in w bytes: a value that is read has no more bytes than are left of the record behind its place.
use Rattle.std.specs.Prelude.{if◌then◌else◌}
use Prim.Native.Nat.{ℕ, ◌-◌, ◌≤◌}
use mathlib.Core.Path.{◌≡◌, refl}
use mathlib.Core.Bool.{Bool, true, false}
use mathlib.Core.List.{List, ◌++◌}
use mathlib.Core.Option.{none, some}
use native.Mathlib.Omega.{arith}
use lib.ListN.{length, get_or, length-append, length-take, length-drop, length-replicate}
use lib.Dec.{eqb}
use Rattle.lent.specs.Bytes.{le32, le64, win}
use Rattle.machine.specs.Sizes.{key_width, row_width, session_width}
use Rattle.machine.specs.State.{no_session, session, nothing, staged, DROP, no_row, row}
use Rattle.layout.specs.Layout.{value_mark, value_bytes, lease_bytes, enc_key, dec_key, enc_row, dec_row, session_from, enc_session, dec_session}

win_short : (x : List ℕ) (a n : ℕ) → length (win x a n) ≤ length x - a
unfolding win
win_short x a n = simp (length-take, length-drop) (omega arith)

pub key_wide : (x : List ℕ) → length x ≡ key_width → length (enc_key (dec_key x)) ≡ key_width
unfolding enc_key dec_key
key_wide x h = go (eqb (get_or x 0 0) 1) (eqb (le32 x 4) 0)
  where
    go : (t u : Bool) → length (value_mark (if t then some (win x 16 (get_or x 1 0)) else none) ++ (lease_bytes (if u then none else some (record { token = le32 x 4; until = le64 x 8 })) ++ value_bytes (if t then some (win x 16 (get_or x 1 0)) else none))) ≡ key_width
    go true true = simp (length-append, length-replicate) (omega (arith, win_short x 16 (get_or x 1 0)))
    go true false = simp (length-append, length-replicate) (omega (arith, win_short x 16 (get_or x 1 0)))
    go false true = refl
    go false false = refl

pub row_wide : (x : List ℕ) → length x ≡ row_width → length (enc_row (dec_row x)) ≡ row_width
unfolding enc_row dec_row
row_wide x h = go (eqb (le32 x 0) 0) (eqb (get_or x 6 0) 1) (eqb (get_or x 6 0) 2)
  where
    go : (t u v : Bool) → length (enc_row (if t then no_row else row (le32 x 0) (get_or x 4 0) (get_or x 5 0) (if u then staged (win x 8 (get_or x 7 0)) else if v then DROP else nothing))) ≡ row_width
    go true u v = refl
    go false true v = simp (length-append, length-replicate) (omega (arith, win_short x 8 (get_or x 7 0)))
    go false false true = refl
    go false false false = refl

pub session_wide : (x : List ℕ) → length x ≡ session_width → length (enc_session (dec_session x)) ≡ session_width
unfolding enc_session dec_session
session_wide x h = go (eqb (le32 x 0) 0)
  where
    go : (t : Bool) → length (enc_session (if t then no_session else session (session_from x))) ≡ session_width
    go true = refl
    go false = refl
