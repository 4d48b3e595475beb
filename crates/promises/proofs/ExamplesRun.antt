-- P1 to P12 hold of the cache on every buffer on which START answers READY: on well-formed bytes each answer is the machine's, and the bytes after it are
-- well formed and say the machine's next state, so the examples' answers are those that the definitions compute.
use mathlib.Core.Path.{◌≡◌, refl, ap, ◌∙◌}
use mathlib.Core.Bool.{Bool, true, ◌&&◌}
use mathlib.Core.List.{List, [], ◌∷◌, map}
use Prim.Native.Nat.{ℕ}
use Rattle.lent.specs.Bytes.{Bytes}
use Rattle.lent.specs.Tables.{every}
use Rattle.lent.proofs.Choices.{and_yes}
use Rattle.lent.proofs.Runs.{run_keeps}
use Rattle.machine.specs.State.{State}
use Rattle.machine.specs.Sound.{value_sound}
use Rattle.machine.specs.Examples.{example_read_life, example_write_life, Line, after, answers, Example, answered, examples}
use Rattle.machine.specs.declared.Answer.{Answer}
use Rattle.machine.proofs.SoundMeans.{value_means}
use Rattle.machine.proofs.Examples.{examples-hold}
use Rattle.layout.specs.Layout.{decode}
use Rattle.layout.specs.WellFormed.{well_formed}
use Rattle.startup.specs.Start.{Reply, start_of}
use Rattle.startup.proofs.Sound.{ready_formed, ready_decodes}
use Rattle.cache.specs.Run.{ran}
use Rattle.cache.proofs.Taken.{ran_formed}
use Rattle.promises.specs.Told.{after_bytes, answers_bytes, told_bytes}
use Rattle.promises.proofs.Ran.{formed_kept, decode-ran}

-- each value is sound: at most 64 bytes
valued : List Line → Bool
valued [] = true
valued (x ∷ l) = value_sound x.value && valued l

module _ (x : Line) (l : List Line) (h : valued (x ∷ l) ≡ true) where
  head_bytes : Bytes x.value
  unfolding valued
  head_bytes = (value_means x.value (and_yes (value_sound x.value) (valued l) h).0).bytes

  rest_valued : valued l ≡ true
  unfolding valued
  rest_valued = (and_yes (value_sound x.value) (valued l) h).1

-- the commands that come first
after_formed : (b : List ℕ) (l : List Line) → valued l ≡ true → well_formed b ≡ true → well_formed (after_bytes b l) ≡ true
after_formed = run_keeps (λ b x. (ran b x.at x.command x.value).bytes) after_bytes (λ b. refl) (λ b x l. refl) (λ b l. valued l ≡ true) (λ b. well_formed b ≡ true)
    (λ b x l h f. (formed_kept b x.at x.command x.value (head_bytes x l h) f, rest_valued x l h))

after_follows : (b : List ℕ) (l : List Line) → valued l ≡ true → well_formed b ≡ true → decode (after_bytes b l) ≡ after (decode b) l
after_follows b [] h f = refl
after_follows b (x ∷ l) h f =
    after_follows (ran b x.at x.command x.value).bytes l (rest_valued x l h) (formed_kept b x.at x.command x.value (head_bytes x l h) f)
    ∙ ap (λ (s : State). after s l) (decode-ran b x.at x.command x.value (head_bytes x l h) f)

-- the commands of the example
answers_follow : (b : List ℕ) (l : List Line) → valued l ≡ true → well_formed b ≡ true → answers_bytes b l ≡ answers (decode b) l
answers_follow b [] h f = refl
answers_follow b (x ∷ l) h f =
    let r = answers_follow (ran b x.at x.command x.value).bytes l (rest_valued x l h) (formed_kept b x.at x.command x.value (head_bytes x l h) f) in
    let q = ap (λ (y : Reply). y.answer) (ran_formed b x.at x.command x.value f) in
    rw (r, q, decode-ran b x.at x.command x.value (head_bytes x l h) f) refl

valued_in : List Example → Bool
valued_in [] = true
valued_in (e ∷ l) = valued e.first && valued e.then && valued_in l

examples-valued : valued_in examples ≡ true
unfolding valued_in valued every
examples-valued = refl

module _ (b : List ℕ) (ready : (start_of b example_read_life example_write_life).answer ≡ Answer.Ready) where
  told_follows : (e : Example) → valued e.first ≡ true → valued e.then ≡ true → told_bytes b e ≡ answered e
  told_follows e p q =
      let f = ready_formed b example_read_life example_write_life ready in
      answers_follow (after_bytes (start_of b example_read_life example_write_life).bytes e.first) e.then q (after_formed (start_of b example_read_life example_write_life).bytes e.first p f)
      ∙ ap (λ (s : State). answers s e.then) (after_follows (start_of b example_read_life example_write_life).bytes e.first p f ∙ ap (λ (s : State). after s e.first) (ready_decodes b example_read_life example_write_life ready))

  all_follow : (l : List Example) → valued_in l ≡ true → map (told_bytes b) l ≡ map answered l
  unfolding valued_in
  all_follow [] h = refl
  all_follow (e ∷ l) h =
      let p = (and_yes (valued e.first && valued e.then) (valued_in l) h).0 in
      let q = told_follows e (and_yes (valued e.first) (valued e.then) p).0 (and_yes (valued e.first) (valued e.then) p).1 in
      rw (q, all_follow l (and_yes (valued e.first && valued e.then) (valued_in l) h).1) refl

  pub examples-run : map (told_bytes b) examples ≡ map (λ (e : Example). e.gives) examples
  examples-run = all_follow examples examples-valued ∙ examples-hold
