-- The line is counted, and its text printed; only a HIT needs the bytes of the cache.
use Rattle.lent.proofs.Splice.{part_win}
use Rattle.rehearsal.proofs.Turns.{prints_text}
use lib.ListN.{length-take}
use native.Mathlib.Omega.{arith}
use borrow.Author.Rules.{rules}
use Rattle.rehearsal.proofs.say.Goals as goal

pub returns-then-word-ne-HIT : goal.returns-then-word-ne-HIT
returns-then-word-ne-HIT c =
    let a = c.args in
    prints_text a.said a.cache.now _ _ _ _ _ _ _ c.reply.ensures (λ w. absurd (c.if-word-ne-HIT.true w))
    c.count.ensures c.lines-n.ensures

pub overflow_add-end : goal.overflow_add-end
overflow_add-end c = let h = c.requires.1.inside c.if-word-ne-HIT.false in search rules

pub slice_bounds-reply-end-2 : goal.slice_bounds-reply-end-2
slice_bounds-reply-end-2 c = let h = c.requires.1.inside c.if-word-ne-HIT.false in omega (arith, h)

pub reply-requires-2 : goal.reply-requires-2
reply-requires-2 c = let g = c.requires.1.short c.if-word-ne-HIT.false in (search rules, simp length-take (omega (arith, g)))

pub returns : goal.returns
returns c =
    let a = c.args in
    prints_text a.said a.cache.now _ _ _ _ _ _ _ c.reply-2.ensures (λ w. part_win a.cache.now a.said.at a.said.detail)
    c.count.ensures c.lines-n.ensures
