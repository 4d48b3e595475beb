-- Each test that refuses, in its order, then the fresh state.
use native.Mathlib.Omega.{arith}
use mathlib.Core.Path.{refl}
use Rattle.lent.proofs.Choices.{test_failed, test_passed}
use Rattle.startup.proofs.Started.{started_size, started_read, started_write, started-ready, lifetime_small}
use Rattle.startup.proofs.start.Goals as goal

pub returns-in_default : goal.returns-in_default
returns-in_default c = rw (started_size c.args.s.now c.args.read c.args.write c.in_default.ensures.cases) (refl, refl)

pub returns-then-not-is_lifetime : goal.returns-then-not-is_lifetime
returns-then-not-is_lifetime c =
    let args = c.args in
    rw (started_read args.s.now args.read args.write c.in-Some.ensures.cases.long (test_failed c.is_lifetime.ensures c.if-not-is_lifetime.true)) (refl, c.in-Some.ensures.cases.same)

pub returns-then-not-is_lifetime-2 : goal.returns-then-not-is_lifetime-2
returns-then-not-is_lifetime-2 c =
    let args = c.args in
    rw (started_write args.s.now args.read args.write c.in-Some.ensures.cases.long (test_failed c.is_lifetime-2.ensures c.if-not-is_lifetime-2.true)) (refl, c.in-Some.ensures.cases.same)

pub overflow_cast-read : goal.overflow_cast-read
overflow_cast-read c = omega (arith, lifetime_small c.args.read (test_passed c.is_lifetime.ensures c.if-not-is_lifetime.false))

pub overflow_cast-write : goal.overflow_cast-write
overflow_cast-write c = omega (arith, lifetime_small c.args.write (test_passed c.is_lifetime-2.ensures c.if-not-is_lifetime-2.false))

pub returns : goal.returns
returns c =
    let read_fits = test_passed c.is_lifetime.ensures c.if-not-is_lifetime.false in
    let write-fits = test_passed c.is_lifetime-2.ensures c.if-not-is_lifetime-2.false in
    let args = c.args in
    rw (started-ready args.s.now args.read args.write c.in-Some.ensures.cases.long read_fits write-fits) (refl, c.write_fresh.ensures)
