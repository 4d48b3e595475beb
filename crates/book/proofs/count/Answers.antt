-- The first count goes up by one, and the second, read after it, where a rule is broken.
use Rattle.book.proofs.Counts.{counted_kept, counted-broken}
use Rattle.book.proofs.count.Goals as goal

pub returns-then-rule-eq-KEPT : goal.returns-then-rule-eq-KEPT
returns-then-rule-eq-KEPT c = counted_kept _ _ _ _ _ c.lines.ensures c.wrapping_add_u64-n.ensures.value c.store_u64.ensures c.if-rule-eq-KEPT.true

pub returns : goal.returns
returns c =
    let wrapping-add-u642 = c.wrapping_add_u64-m in
    let broken = c.broken in
    let if1 = c.if-rule-eq-KEPT in
    let store-u64 = c.store_u64 in
    let wrapping-add-u64 = c.wrapping_add_u64-n in
    let lines = c.lines in
    counted-broken _ _ _ _ _ lines.ensures wrapping-add-u64.ensures.value store-u64.ensures _ _ _ broken.ensures wrapping-add-u642.ensures.value
    c.store_u64-2.ensures if1.false
