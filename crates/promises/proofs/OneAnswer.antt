-- One answer: each public contract says what is returned, and what the buffer then is, by an equation whose right side is fixed by what the caller
-- lent. Two returns that satisfy a contract are equal to the same thing, so they are equal.
use Rattle.std.specs.Prelude.{Option}
use mathlib.Core.Path.{◌≡◌, sym, ◌∙◌}
use mathlib.Core.Bool.{Bool}
use mathlib.Core.List.{List}
use Prim.Native.Nat.{ℕ}
use denote.Ref.{Bor}
use Rattle.machine.specs.State.{Value}
use Rattle.machine.specs.declared.Answer.{Answer}
use Rattle.machine.specs.declared.Command.{Command}
use Rattle.layout.specs.WellFormed.{well_formed}
use Rattle.startup.specs.Start.{Reply, start_of}
use Rattle.stretches.specs.Stretch.{Stretch}
use Rattle.show.specs.Show.{show_of}
use Rattle.cache.specs.Run.{ran}
use Rattle.numbered.specs.Commands.{ran_by}
use Rattle.promises.specs.OneAnswer.{OneGiven}

pub one_answer : {A : Type 0} (f x y : A) → x ≡ f → y ≡ f → x ≡ y
one_answer f x y p q = p ∙ sym q

one-reply : (f : Reply) → OneGiven f
one-reply f r t x y p q = (one_answer f.answer r t p.0 q.0, one_answer f.bytes x y p.1 q.1)

pub one-run : (b : List ℕ) (time : ℕ) (c : Command) (v : Value) → OneGiven (ran b time c v)
one-run b time c v = one-reply (ran b time c v)

pub one-start : (b : List ℕ) (read_life write_life : ℕ) → OneGiven (start_of b read_life write_life)
one-start b read_life write_life = one-reply (start_of b read_life write_life)

pub one_formed : (b : List ℕ) (x y : Bool) → x ≡ well_formed b → y ≡ well_formed b → x ≡ y
one_formed b = one_answer (well_formed b)

pub one-show : (b : List ℕ) (n k : ℕ) (r t : Answer) → r ≡ (show_of b n k).answer → t ≡ (show_of b n k).answer → r ≡ t
one-show b n k = one_answer (show_of b n k).answer

-- the stretch that SHOW hands back, by its place and its bytes
pub one_stretch : (s r t : Bor (List ℕ)) (n k : ℕ) → Stretch s r (show_of s.now n k) → Stretch s t (show_of s.now n k) → (r.ref_ptr ≡ t.ref_ptr) × (r.now ≡ t.now)
one_stretch s r t n k p q = (one_answer _ r.ref_ptr t.ref_ptr p.place q.place, one_answer _ r.now t.now p.value q.value)

pub one-numbered : (b : List ℕ) (time : ℕ) (v : Value) (n : Option Command) → OneGiven (ran_by b time v n)
one-numbered b time v n = one-reply (ran_by b time v n)
