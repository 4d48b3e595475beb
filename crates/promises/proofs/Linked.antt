-- One answer, of the library that firmware links: each exported contract is an equation, or a record of equations, whose right sides are fixed
-- by what the caller lent.
use mathlib.Core.Path.{◌≡◌}
use mathlib.Core.List.{List}
use Prim.Native.Nat.{ℕ}
use Rattle.machine.specs.State.{Value}
use Rattle.machine.specs.declared.Answer.{Answer}
use Rattle.startup.specs.Start.{Reply, start_of}
use Rattle.show.specs.Show.{show_of}
use Rattle.numbered.specs.Commands.{command_of, ran_by}
use Rattle.exported.specs.Told.{version, Said, stretch_told}
use Rattle.promises.specs.OneAnswer.{OneReply}
use Rattle.promises.proofs.OneAnswer.{one_answer}

one-said : (a : Answer) (r t : ℕ) (x y : List ℕ) → Said a r x → Said a t y → (r ≡ t) × (x ≡ y)
one-said a r t x y p q = (one_answer _ r t p.word q.word, one_answer _ x y p.numbers q.numbers)

one-replied : (f : Reply) → OneReply f
one-replied f r t x y b d p q =
    let s = one-said f.answer r t x y p.said q.said in
    (s.0, s.1, one_answer f.bytes b d p.bytes q.bytes)

pub one_linked_start : (b : List ℕ) (read_life write_life : ℕ) → OneReply (start_of b read_life write_life)
one_linked_start b read_life write_life = one-replied (start_of b read_life write_life)

pub one_linked_run : (b : List ℕ) (time number i j k l : ℕ) (v : Value) → OneReply (ran_by b time v (command_of number i j k l))
one_linked_run b time number i j k l v = one-replied (ran_by b time v (command_of number i j k l))

pub one_linked_show : (b : List ℕ) (n k r t : ℕ) (x y : List ℕ) → Said (show_of b n k).answer r x → Said (show_of b n k).answer t y → (r ≡ t) × (x ≡ y)
one_linked_show b n k = one-said (show_of b n k).answer

pub one_linked_stretch : (b : List ℕ) (n k : ℕ) (x y : List ℕ) → x ≡ stretch_told (show_of b n k) → y ≡ stretch_told (show_of b n k) → x ≡ y
one_linked_stretch b n k = one_answer (stretch_told (show_of b n k))

pub one-version : (x y : ℕ) → x ≡ version → y ≡ version → x ≡ y
one-version = one_answer version
