-- `stretch` meets its contract: the bytes before i are answered and held, and where it stops the chunk ends or there is no room.
use borrow.Author.Rules.{rules}
use mathlib.Core.Path.{◌≡◌, refl}
use mathlib.Core.Logic.{inl, inr}
use lib.ListN.{length}
use native.Mathlib.Omega.{arith}
use Rattle.script.proofs.Prints.{printed-length}
use Rattle.script.proofs.Stretches.{buffer-none, buffer-more, reaches_none, reaches_more}
use Rattle.script.proofs.stretch.Goals as goal

pub loop-i-init : goal.loop-i-init
loop-i-init c =
    let pre = c.requires in
    (refl, (refl, ((record { size = pre.1.size; most = omega (arith, pre.1.most) }, buffer-none _ _ _), reaches_none _ _ _ _ pre.0)))

pub overflow_sub-out : goal.overflow_sub-out
overflow_sub-out c = let l = printed-length c.loop-i.invariant.1.1.1.answered.printed in omega (arith, c.loop-i.invariant.1.1.1.answered.printed.fits)

pub returns-then-out-at-lt-LINE_ROOM : goal.returns-then-out-at-lt-LINE_ROOM
returns-then-out-at-lt-LINE_ROOM c = let l = printed-length c.loop-i.invariant.1.1.1.answered.printed in
    let h = c.loop-i.invariant.1.1.0 in record { stretched = record { reaches = c.loop-i.invariant.1.1.1; stops = inr (omega (arith, c.if-out-at-lt-LINE_ROOM.true)) }; held_fits = h.0; held_after = h.1 }

pub step-at-requires : goal.step-at-requires
step-at-requires c =
    let if1 = c.if-out-at-lt-LINE_ROOM in
    let loop = c.loop-i in
    let l = printed-length loop.invariant.1.1.1.answered.printed in
    (omega (arith, if1.false), loop.invariant.1.1.0.0)

pub loop-i-preserved : goal.loop-i-preserved
loop-i-preserved c =
    let step = c.step-at.ensures in
    let test = c.loop-i-test.true in
    let inv = c.loop-i.invariant in
    let l = printed-length inv.1.1.1.answered.printed in
    let held = buffer-more _ _ _ _ _ _ inv.1.1.1.within.0 test inv.1.1.0.1 step.held_after in
    let reached = reaches_more _ _ _ _ _ _ _ _ _ _ _ inv.1.1.1 test (omega (arith, c.if-out-at-lt-LINE_ROOM.false)) step.delivered in
    (search rules, (search rules, ((step.held_fits, held), reached)))

pub returns : goal.returns
returns c =
    let loop = c.loop-i in
    let w = loop.invariant.1.1.1.within in
    let h = loop.invariant.1.1.0 in
    let ended : loop.i ≡ length c.args.chunk.now = omega arith in
    record {
      stretched = record { reaches = rw ended at loop.invariant.1.1.1; stops = inl refl };
      held_fits = h.0;
      held_after = rw ended at h.1;
    }
