-- A key without a token, or one whose token notes its mark.
use mathlib.Core.Path.{sym, ◌∙◌}
use borrow.Author.Tests.{eq-eqb, ne_eqb}
use Rattle.joins.proofs.token_meets.Goals as goal

pub returns-then-t-eq0 : goal.returns-then-t-eq0
returns-then-t-eq0 c = let e = eq-eqb _ 0 (sym c.load_u32-t.ensures ∙ c.if-t-eq0.true) in (rw e, rw e)

pub returns : goal.returns
returns c =
    let n = c.load_u32-t.ensures in
    let e = ne_eqb _ 0 (λ z. c.if-t-eq0.false (n ∙ z)) in
    (rw (e, sym n) c.meets.ensures.0, rw (e, sym n) c.meets.ensures.1)
