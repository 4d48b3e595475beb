-- After k turns each of the first k keys is formed, their tokens have their marks, and unless one met the mark of another they are distinct.
use mathlib.Core.Path.{◌≡◌, ◌∙◌}
use Rattle.lent.proofs.Choices.{test_failed}
use Rattle.lent.proofs.Splice.{part_win}
use Rattle.lent.proofs.Walks.{every_fails}
use Rattle.machine.specs.Sizes.{key_count}
use Rattle.layout.specs.Layout.{dec_head}
use Rattle.joins.proofs.Marks.{marked-none, met_noted, met_more}
use Rattle.state.specs.Forms.{keys_formed, keys_fit}
use Rattle.state.proofs.Walked.{walked_none, walked_more, walked_all}
use borrow.Author.Rules.{rules}
use Rattle.state.proofs.keys_fit.Goals as goal
use Rattle.state.proofs.keys_fit.Goals.{After-key_formed}
use Rattle.state.proofs.keys_fit.Invariants.{Formed}

pub loop-k-init : goal.loop-k-init
loop-k-init c = walked_none (marked-none _)

key-told : (c : After-key_formed) → c.key_formed.result ≡ Formed c.args.s.now c.loop-k.k
unfolding dec_head
key-told c = c.key_formed.ensures ∙ rw ((rw c.unwrap-key.ensures at c.as_array.ensures.cases).same, part_win, c.limit-until.ensures, c.load_u32-next.ensures)

pub returns-then-not-key_formed : goal.returns-then-not-key_formed
unfolding keys_fit keys_formed
returns-then-not-key_formed c = rw (every_fails (Formed c.args.s.now) key_count c.loop-k.k (search rules) (test_failed (key-told (goal.at.returns-then-not-key_formed c).After-key_formed) c.if-not-key_formed.true))

pub loop-k-preserved : goal.loop-k-preserved
loop-k-preserved c = let w = c.loop-k.invariant in let m = met_noted w.noted c.token_meets-met.ensures.0 c.token_meets-met.ensures.1 in
    walked_more w (search rules) (key-told (goal.at.loop-k-preserved c).After-key_formed) c.if-not-key_formed.false m.marked (λ d. met_more d m)

pub returns-then-not-met : goal.returns-then-not-met
unfolding keys_fit keys_formed
returns-then-not-met c = let w = walked_all c.loop-k.invariant (search rules) in rw (w.each, w.apart (c.if-not-met.true))

pub returns : goal.returns
unfolding keys_fit keys_formed
returns c = let w = walked_all c.loop-k.invariant (search rules) in rw w.each c.tokens_differ.ensures
