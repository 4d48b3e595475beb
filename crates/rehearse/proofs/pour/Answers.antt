-- `pour` meets its contract: the chunk's bytes before `from` are answered, and each stretch takes at least one more.
use Rattle.std.proofs.Common.{rules, refl, arith}
use Rattle.feed.proofs.Cut.{fed-none}
use Rattle.script.specs.Input.{answer_line}
use Rattle.script.specs.Buffers.{opened}
use Rattle.script.proofs.Stretches.{stretched_on, poured_on}
use Rattle.rehearse.proofs.pour.Goals as goal

pub loop-from-init : goal.loop-from-init
loop-from-init g c =
    let none_fed = fed-none answer_line (opened c.args.cache.now c.args.book.now c.args.line.now c.args.held) in
    (refl, refl, refl, search rules, c.requires.1, rw none_fed)

pub loop-from-smaller : goal.loop-from-smaller
loop-from-smaller g c =
    let stretch = c.stretch-at in
    let loop = c.loop-from in
    let l = loop.invariant.2 in
    let on = stretched_on (opened loop.cache loop.book loop.line loop.held) c.args.chunk.now loop.from loop.out
    {next = stretch.result.from}
    {after = stretch.new.out}
    {put = stretch.result.put}
    {now = opened stretch.new.cache stretch.new.book stretch.new.line stretch.result.held}
    stretch.ensures.stretched c.loop-from-test.true (omega (arith, c.requires.0)) in
    omega (arith, on, stretch.ensures.stretched.reaches.within.1)

pub loop-from-preserved : goal.loop-from-preserved
loop-from-preserved g c =
    let stretch = c.stretch-at in
    let loop = c.loop-from in
    let held = stretch.ensures.held_fits in
    let fed = poured_on (opened c.args.cache.now c.args.book.now c.args.line.now c.args.held) (opened loop.cache loop.book loop.line loop.held)
    (opened stretch.new.cache stretch.new.book stretch.new.line stretch.result.held) c.args.chunk.now loop.from stretch.result.from loop.out stretch.new.out stretch.result.put
    loop.invariant.5 stretch.ensures.stretched in
    (search rules, search rules, search rules, stretch.ensures.stretched.reaches.within.1, record { size = held.size; most = omega (arith, held.most) }, fed)
