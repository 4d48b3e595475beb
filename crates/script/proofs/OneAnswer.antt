-- One answer: two returns of `stretch` that satisfy its contract stop at the same place, since before each byte taken there was room and where one stops there is
-- none or the chunk ends; then both answered the same bytes, and what these leave is fixed. What `finish` leaves is fixed by its contract's equations.
use mathlib.Core.Path.{◌≡◌, sym, ap, ◌∙◌}
use mathlib.Core.Logic.{⊎_elim}
use mathlib.Core.List.{List}
use Prim.Native.Nat.{ℕ, ◌-◌, ◌<◌}
use native.Mathlib.Omega.{arith}
use lib.ListN.{take}
use Rattle.lent.specs.Bytes.{win}
use Rattle.feed.specs.Held.{Buffer, buffer, pushed_all}
use Rattle.feed.specs.Answers.{Answered, Open}
use Rattle.book.specs.Memory.{Memory, memory_of}
use Rattle.script.specs.Input.{finished}
use Rattle.script.specs.Buffers.{opened, Delivered, Stretched}

one_delivered : {W : Type 0} (s : Answered W) (out : List ℕ) (put : ℕ) (v w : W) (o p : List ℕ) (r t : ℕ)
    → Delivered s v out put o r → Delivered s w out put p t → (v ≡ w) × ((o ≡ p) × (r ≡ t))
one_delivered s out put v w o p r t h g =
    (h.world ∙ sym g.world, (h.printed.bytes ∙ sym g.printed.bytes, h.printed.place ∙ sym g.printed.place))

module _ (entry : Open Memory) (chunk : List ℕ) (from : ℕ) (out : List ℕ) where
  -- a return stops at the place n
  abbrev StopsAt : ℕ → Type 0
  StopsAt n = (v : Open Memory) × ((o : List ℕ) × ((r : ℕ) × Stretched entry chunk from n v out o r))

  -- and not before another
  not_before : (n m : ℕ) → StopsAt n → StopsAt m → n < m → ⊥
  not_before n m (v, (o, (r, h))) (w, (p, (t, g))) l =
      let f = h.reaches.within.0 in
      let e = h.reaches.answered.printed.place in
      ⊎_elim
      (λ e. let k = g.reaches.within.1 in omega arith)
      (λ k. let j = g.reaches.room (n - from) (omega arith) in omega arith)
      h.stops

  one_place : (n m : ℕ) → StopsAt n → StopsAt m → n ≡ m
  one_place n m h g = let a = not_before n m h g in let b = not_before m n g h in omega arith

pub one_stretched : (cache book line : List ℕ) (held : ℕ) (chunk : List ℕ) (from : ℕ) (out : List ℕ) (n m h k r t : ℕ) (x y b c l j o p : List ℕ)
    → Stretched (opened cache book line held) chunk from n (opened x b l h) out o r → buffer l h ≡ pushed_all (buffer line held) (win chunk from (n - from))
    → Stretched (opened cache book line held) chunk from m (opened y c j k) out p t → buffer j k ≡ pushed_all (buffer line held) (win chunk from (m - from))
    → (n ≡ m) × ((h ≡ k) × ((r ≡ t) × ((x ≡ y) × ((b ≡ c) × ((l ≡ j) × (o ≡ p))))))
one_stretched cache book line held chunk from out n m h k r t x y b c l j o p s e z f =
    let q = one_place _ chunk from out n m (_, (o, (r, s))) (_, (p, (t, z))) in
    let d = one_delivered _ out 0 _ _ o p r t s.reaches.answered (rw (← q) at z.reaches.answered) in
    let a : buffer l h ≡ buffer j k = e ∙ rw q (sym f) in (
      q,
      (
        ap (λ (i : Buffer). i.held) a,
        (d.1.1, (ap (λ (i : Open Memory). i.world.cache) d.0, (ap (λ (i : Open Memory). i.world.book) d.0, (ap (λ (i : Buffer). i.line) a, d.1.0)))),
      ),
    )

pub one-finished : (cache book line : List ℕ) (held : ℕ) (out : List ℕ) (r t : ℕ) (x y b c o p : List ℕ)
    → Delivered (finished (memory_of cache book) (take held line)) (memory_of x b) out 0 o r
    → Delivered (finished (memory_of cache book) (take held line)) (memory_of y c) out 0 p t
    → (r ≡ t) × ((x ≡ y) × ((b ≡ c) × (o ≡ p)))
one-finished cache book line held out r t x y b c o p h g =
    let d = one_delivered _ out 0 _ _ o p r t h g in
    (d.1.1, (ap (λ (i : Memory). i.cache) d.0, (ap (λ (i : Memory). i.book) d.0, d.1.0)))
