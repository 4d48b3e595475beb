-- However an input is cut into chunks, the texts of the chunks and of the end are, one behind the other, those of its rehearsal. A line that is cut was too
-- long and stays so, and a line is answered by what is read of it: the rehearsal of an input is that of its lines uncut.
use mathlib.Core.Path.{◌≡◌, refl, sym, ap, ◌∙◌}
use mathlib.Core.Logic.{inl, inr}
use mathlib.Core.List.{List, [], ◌∷◌, map, append_assoc}
use Prim.Native.Nat.{ℕ, ◌<◌}
use native.Mathlib.Omega.{arith}
use lib.Dec.{ltb}
use lib.ListN.{length, take, length-take}
use lib.Seq.{take_all}
use borrow.Author.Tests.{lt-ltb, ltb-true, ltb-false}
use Rattle.lent.proofs.Choices.{case_of}
use Rattle.feed.specs.Lines.{held_max, lines_of, cut_lines}
use Rattle.feed.specs.Answers.{Open, behind, answers, fed, last}
use Rattle.feed.proofs.Cut.{fed-none, fed-append, whole-lines}
use Rattle.book.specs.Memory.{Memory}
use Rattle.lines.specs.Fields.{line_max}
use Rattle.lines.specs.Lines.{read_line}
use Rattle.rehearsal.specs.Rehearsal.{said_of, turn}
use Rattle.script.specs.Input.{answer_line, end_line, closed, finished, rehearsed, nothing_read, chunks, joined}

-- all of an input at once, and then its end
pub fed-ended : (w : Memory) (input : List ℕ)
    → let f = fed answer_line (nothing_read w) input in behind f.text (finished f.world.world f.world.held) ≡ rehearsed w input
unfolding finished rehearsed
fed-ended w input =
    let f = fed answer_line (nothing_read w) input in
    let l = last answer_line f.world.world f.world.held in
    let a : behind f.text (closed l) ≡ closed (behind f.text l) =
    ap (λ (t : List ℕ). record { world = l.world; text = t }) (sym (append_assoc f.text l.text (end_line l.world.book))) in
    a ∙ ap closed (whole-lines answer_line w input)

chunks-joined : (o : Open Memory) (cs : List (List ℕ)) → chunks o cs ≡ fed answer_line o (joined cs)
unfolding chunks
chunks-joined o [] = sym (fed-none answer_line o)
chunks-joined o (c ∷ cs) =
    ap (behind (fed answer_line o c).text) (chunks-joined (fed answer_line o c).world cs) ∙ sym (fed-append answer_line o c (joined cs))

pub chunks-ended : (w : Memory) (cs : List (List ℕ))
    → let f = chunks (nothing_read w) cs in behind f.text (finished f.world.world f.world.held) ≡ rehearsed w (joined cs)
chunks-ended w cs = rw (chunks-joined (nothing_read w) cs) (fed-ended w (joined cs))

-- lines that are cut are read as they were

read_cut : (t : List ℕ) → read_line (take held_max t) ≡ read_line t
unfolding read_line
read_cut t = elim (case_of (ltb line_max (length t))) [
  | inl e ↦ (let l : line_max < length (take held_max t) = simp length-take (omega (arith, ltb-true line_max (length t) e)) in rw (e, lt-ltb line_max (length (take held_max t)) l))
  | inr e ↦ rw (take_all held_max t (omega (arith, ltb-false line_max (length t) e)))
]

answer_cut : (w : Memory) (t : List ℕ) → answer_line w (take held_max t) ≡ answer_line w t
unfolding answer_line turn said_of
answer_cut w t = rw (read_cut t)

answers_cut : (w : Memory) (ts : List (List ℕ)) → answers answer_line w (map (take held_max) ts) ≡ answers answer_line w ts
unfolding answers
answers_cut w [] = refl
answers_cut w (t ∷ ts) = rw (answer_cut w t, answers_cut (answer_line w t).world ts)

pub rehearsed_uncut : (w : Memory) (input : List ℕ) → rehearsed w input ≡ closed (answers answer_line w (lines_of input))
unfolding rehearsed cut_lines
rehearsed_uncut w input = ap closed (answers_cut w (lines_of input))
