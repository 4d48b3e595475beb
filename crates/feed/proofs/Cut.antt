-- The bytes of an input, one after the other, are answered as its lines are, one after the other. By induction on the bytes; what is
-- held stands for all the bytes since the last newline, of which only the first are kept.
use Rattle.std.specs.Prelude.{if◌then◌else◌}
use mathlib.Core.Path.{◌≡◌, refl, ap, ◌∙◌}
use mathlib.Core.Bool.{Bool, true, false}
use mathlib.Core.List.{List, [], ◌∷◌, ◌++◌, map, append_assoc, append-nil}
use Prim.Native.Nat.{ℕ}
use lib.ListN.{length, take}
use lib.Dec.{eqb}
use Rattle.lent.specs.Text.{newline, onto}
use Rattle.feed.specs.Lines.{held_max, lines_of, cut_lines}
use Rattle.feed.specs.Answers.{Answered, Open, behind, answers, byte, fed, last}
use Rattle.feed.proofs.Laws.{take_grow}

-- the lines of an input before which the bytes h of its first line came
abbrev prefixed : List ℕ → List (List ℕ) → List (List ℕ)
prefixed [] ls = ls
prefixed (b ∷ h) ls = onto b (prefixed h ls)

prefixed-cons : (h l : List ℕ) (ls : List (List ℕ)) → prefixed h (l ∷ ls) ≡ (h ++ l) ∷ ls
prefixed-cons [] l ls = refl
prefixed-cons (b ∷ h) l ls = rw (prefixed-cons h l ls)

prefixed_snoc : (h : List ℕ) (b : ℕ) (ls : List (List ℕ)) → prefixed (h ++ b ∷ []) ls ≡ prefixed h (onto b ls)
prefixed_snoc [] b ls = refl
prefixed_snoc (a ∷ h) b ls = ap (onto a) (prefixed_snoc h b ls)

prefixed-none : (b : ℕ) (h : List ℕ) → prefixed (b ∷ h) [] ≡ (b ∷ h) ∷ []
prefixed-none b [] = refl
prefixed-none b (a ∷ h) = ap (onto b) (prefixed-none a h)

module _ {W : Type 0} (answer : W → List ℕ → Answered W) where
  abbrev opened : W → List ℕ → Open W
  opened w h = record { world = w; held = h }

  -- bytes in turn, and then the end of the input
  abbrev pub whole : Open W → List ℕ → Answered W
  whole o bs = let f = fed answer o bs in behind f.text (last answer f.world.world f.world.held)

  whole-cons : (o : Open W) (b : ℕ) (bs : List ℕ) → whole o (b ∷ bs) ≡ behind (byte answer o b).text (whole (byte answer o b).world bs)
  unfolding fed
  whole-cons o b bs = rw append_assoc

  pub byte-newline : (w : W) (h : List ℕ) (b : ℕ) → eqb b newline ≡ true
      → byte answer (opened w h) b ≡ record { world = opened (answer w h).world []; text = (answer w h).text }
  unfolding byte
  byte-newline w h b e = rw e

  pub byte_other : (w : W) (h : List ℕ) (b : ℕ) → eqb b newline ≡ false
      → byte answer (opened w h) b ≡ record { world = opened w (take held_max (h ++ b ∷ [])); text = [] }
  unfolding byte
  byte_other w h b e = rw e

  whole-none : (w : W) (h : List ℕ) → whole (opened w (take held_max h)) [] ≡ answers answer w (map (take held_max) (prefixed h []))
  unfolding fed last answers
  whole-none w [] = refl
  whole-none w (b ∷ h) = rw (prefixed-none b h, append-nil)

  -- a byte more in front, by what it is
  whole-byte : (w : W) (h : List ℕ) (b : ℕ) (bs : List ℕ) (t : Bool) → eqb b newline ≡ t
      → ((v : W) (k : List ℕ) → whole (opened v (take held_max k)) bs ≡ answers answer v (map (take held_max) (prefixed k (lines_of bs))))
      → whole (opened w (take held_max h)) (b ∷ bs) ≡ answers answer w (map (take held_max) (prefixed h (if t then [] ∷ lines_of bs else onto b (lines_of bs))))
  unfolding answers
  whole-byte w h b bs true e next =
      whole-cons (opened w (take held_max h)) b bs
      ∙ rw (byte-newline w (take held_max h) b e, prefixed-cons h [] (lines_of bs), append-nil)
      (ap (behind (answer w (take held_max h)).text) (next (answer w (take held_max h)).world []))
  whole-byte w h b bs false e next =
      whole-cons (opened w (take held_max h)) b bs
      ∙ rw (byte_other w (take held_max h) b e, take_grow held_max h (b ∷ []), ← prefixed_snoc h b (lines_of bs)) (next w (h ++ b ∷ []))

  whole-prefixed : (w : W) (h bs : List ℕ) → whole (opened w (take held_max h)) bs ≡ answers answer w (map (take held_max) (prefixed h (lines_of bs)))
  unfolding lines_of
  whole-prefixed w h [] = whole-none w h
  whole-prefixed w h (b ∷ bs) = whole-byte w h b bs (eqb b newline) refl (λ v k. whole-prefixed v k bs)

  -- nothing held: all of an input
  pub whole-lines : (w : W) (bs : List ℕ) → whole (opened w []) bs ≡ answers answer w (cut_lines bs)
  unfolding cut_lines
  whole-lines w bs = whole-prefixed w [] bs

  pub fed-none : (o : Open W) → fed answer o [] ≡ record { world = o; text = [] }
  unfolding fed
  fed-none o = refl

  -- an input that comes in two parts
  pub fed-append : (o : Open W) (xs ys : List ℕ) → fed answer o (xs ++ ys) ≡ behind (fed answer o xs).text (fed answer (fed answer o xs).world ys)
  unfolding fed
  fed-append o [] ys = refl
  fed-append o (x ∷ xs) ys = rw (fed-append (byte answer o x).world xs ys, append_assoc)

  pub fed-more : (o : Open W) (xs : List ℕ) (b : ℕ) (s : Answered (Open W)) → byte answer (fed answer o xs).world b ≡ s
      → fed answer o (xs ++ b ∷ []) ≡ behind (fed answer o xs).text s
  unfolding fed
  fed-more o xs b s e = fed-append o xs (b ∷ []) ∙ rw (e, append-nil)

  -- the end of the input where bytes are held
  pub last_line : (w : W) (h : List ℕ) → (length h ≡ 0 → ⊥) → last answer w h ≡ answer w h
  unfolding last
  last_line w [] f = absurd (f refl)
  last_line w (b ∷ h) f = refl

  pub last_none : (w : W) → last answer w [] ≡ record { world = w; text = [] }
  unfolding last
  last_none w = refl
