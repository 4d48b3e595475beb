-- A row is on a key exactly if its session is not 0 and its key is that one, which is what the code tests.
use Rattle.lookups.specs.Test.{row_test}
use borrow.Author.Tests.{eq-eqb, ne_eqb}
use Rattle.lookups.proofs.is_on.Goals as goal

pub returns-then-m-eq0 : goal.returns-then-m-eq0
unfolding row_test
returns-then-m-eq0 c = rw (← c.load_u32.ensures, ← c.from-m.ensures) (rw c.if-m-eq0.true)

pub returns-then-n-eq0 : goal.returns-then-n-eq0
unfolding row_test
returns-then-n-eq0 c = rw (← c.load_u32.ensures, ← c.from-m.ensures, c.index-key.ensures.0) (rw (ne_eqb _ 0 c.if-m-eq0.false, c.if-n-eq0.true))

pub returns-then-m-n : goal.returns-then-m-n
unfolding row_test
returns-then-m-n c = rw (← c.load_u32.ensures, ← c.from-m.ensures) (rw (ne_eqb _ 0 c.if-m-eq0.false, ne_eqb _ 0 c.if-n-eq0.false, ne_eqb _ _ c.if-m-n.true))

pub returns : goal.returns
unfolding row_test
returns c = let if2 = c.if-n-eq0 in
    let index = c.index-key in
    let if1 = c.if-m-eq0 in
    let load-u32 = c.load_u32 in
    rw (← load-u32.ensures, ← c.from-m.ensures, index.ensures.0) (rw (ne_eqb _ 0 if1.false, ne_eqb _ 0 if2.false, eq-eqb _ _ c.if-m-n.false))
