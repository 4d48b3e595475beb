-- What callers cite of a line that is read, whatever it says: its length is that of its value, which are bytes that fit the buffer; a register write is in range. Each way to read a line ends in one of three forms, and each form has all of this.
use Rattle.std.specs.Prelude.{if◌then◌else◌, Some, None, Option as ProgramOption}
use mathlib.Core.Path.{◌≡◌, refl}
use mathlib.Core.Bool.{Bool, true, false}
use mathlib.Core.List.{List, [], ◌∷◌}
use mathlib.Core.Option.{Option, none, some, none-ne-some}
use Prim.Native.Nat.{ℕ, ◌≤◌}
use native.Mathlib.Omega.{arith}
use lib.Dec.{eqb, ltb}
use lib.ListN.{length}
use borrow.Author.Tests.{ltb-false}
use Rattle.lent.specs.Bytes.{Bytes}
use Rattle.lent.proofs.Choices.{if_ind}
use Rattle.hex_text.specs.Hex.{read_hex}
use Rattle.hex_text.proofs.Laws.{read_bytes}
use Rattle.lines.specs.Fields.{line_max, value_room, Field, fields, ◌>>=◌, number, numbers, Lettered, letter, up_to, last_value, at_end, ending}
use Rattle.lines.specs.Lines.{Read, unvalued, or_unreadable, shape_of, command_line, start_letter, write_letter, key_max, value_max, start_line, write_line, timed_line, line_by, read_line}
use Rattle.lines.specs.declared.Line.{Line}
use Rattle.lines.specs.declared.Shape.{Shape}

-- the length that a line gives
abbrev pub size_of : Line → ℕ
size_of Line.Unreadable = 0
size_of (Line.Start r w) = 0
size_of (Line.Write s k n) = n
size_of (Line.Command p t a b c d n) = n

abbrev pub Ranged : Line → Type 0
Ranged Line.Unreadable = Unit
Ranged (Line.Start r w) = Unit
Ranged (Line.Write s k n) = (k ≤ key_max) × (n ≤ value_max)
Ranged (Line.Command p t a b c d n) = Unit

pub record WellRead (x : Read) : Type 0 where
  pub size : size_of x.line ≡ length x.value
  pub room : length x.value ≤ value_room
  pub bytes : Bytes x.value
  pub range : Ranged x.line

-- ---- the last field

module _ (most : ℕ) (v : List ℕ) where
  abbrev ShortBytes : Type 0
  ShortBytes = (length v ≤ most) × Bytes v

  short_fits : (f w : List ℕ) (t : Bool) → ltb most (length w) ≡ t → read_hex f ≡ some w → (if t then none else some w) ≡ some v → ShortBytes
  short_fits f w true q e h = absurd (none-ne-some v h)
  short_fits f w false q e h =
      let p : w ≡ v = cc in
      rw (← p) (ltb-false most (length w) q, read_bytes f w e)

  field_fits : (f : List ℕ) (o : Option (List ℕ)) → read_hex f ≡ o → up_to most o ≡ some v → ShortBytes
  field_fits f none e h = absurd (none-ne-some v h)
  field_fits f (some w) e h = short_fits f w (ltb most (length w)) refl e h

  value_fits : (fs : List Field) → last_value most fs ≡ some v → ShortBytes
  value_fits [] h = absurd (none-ne-some v h)
  value_fits (f ∷ []) h = field_fits f (read_hex f) refl h
  value_fits (f ∷ g ∷ fs) h = absurd (none-ne-some v h)

ending-fits : (valued : Bool) (v : List ℕ) (fs : List Field) → ending valued fs ≡ some v → ShortBytes value_room v
ending-fits true v fs h = value_fits value_room v fs h
ending-fits false v [] h = let e : [] ≡ v = cc in rw (← e) (omega arith, λ i. omega arith)
ending-fits false v (f ∷ fs) h = absurd (none-ne-some v h)

-- ---- the three forms

-- no value
unvalued-sound : (l : Line) → size_of l ≡ 0 → Ranged l → WellRead (unvalued l)
unvalued-sound l e h = record { size = e; room = omega arith; bytes = λ i. omega arith; range = h }

unreadable-sound : WellRead (unvalued Line.Unreadable)
unreadable-sound = unvalued-sound Line.Unreadable refl tt

-- what is read, if it is
abbrev Fine : Option Read → Type 0
Fine o = WellRead (or_unreadable o)

next_fine : {A : Type 0} (o : Option A) (f : A → Option Read) → ((x : A) → o ≡ some x → Fine (f x)) → Fine (o >>= f)
next_fine none f k = unreadable-sound
next_fine (some x) f k = k x refl

at_end_fine : (fs : List Field) (r : Read) → WellRead r → Fine (at_end fs r)
at_end_fine [] r h = h
at_end_fine (f ∷ fs) r h = unreadable-sound

-- ---- each way

start_fine : (fs : List Field) → Fine (start_line fs)
unfolding start_line
start_fine fs =
    next_fine (numbers 2 fs) _ (λ n e. at_end_fine n.rest _ (unvalued-sound (Line.Start n.a n.b) refl tt))

write_fine : (fs : List Field) → Fine (write_line fs)
unfolding write_line
write_fine fs =
    next_fine (numbers 2 fs) _
    (λ n e. if_ind Fine (ltb key_max n.b) (λ t. unreadable-sound)
    (λ t. next_fine (last_value value_max n.rest) _
    (λ v q. let s = value_fits value_max v n.rest q in
    record { size = refl; room = omega (arith, s.0); bytes = s.1; range = (ltb-false key_max n.b t, s.0) })))

command_fine : (time : ℕ) (s : ProgramOption Shape) (fs : List Field) → Fine (command_line time s fs)
unfolding command_line
command_fine time (Some s) fs =
    next_fine (numbers s.numbers fs) _
    (λ n e. next_fine (ending s.valued n.rest) _
    (λ v q. let s = ending-fits s.valued v n.rest q in record { size = refl; room = s.0; bytes = s.1; range = tt }))
command_fine time None fs = unreadable-sound

timed_fine : (fs : List Field) → Fine (timed_line fs)
unfolding timed_line
timed_fine fs =
    next_fine (number true fs) _
    (λ t e. next_fine (letter t.rest) _
    (λ l q. if_ind Fine (eqb l.letter write_letter) (λ p. write_fine l.rest)
    (λ p. command_fine t.number (shape_of l.letter) l.rest)))

by_fine : (o : Option Lettered) (fs : List Field) → Fine (line_by o fs)
by_fine none fs = timed_fine fs
by_fine (some l) fs = if_ind Fine (eqb l.letter start_letter) (λ p. start_fine l.rest) (λ p. timed_fine fs)

pub line_sound : (t : List ℕ) → WellRead (read_line t)
unfolding read_line
line_sound t = if_ind WellRead (ltb line_max (length t)) (λ p. unreadable-sound) (λ p. by_fine (letter (fields t)) (fields t))
