-- `rehearse` meets its contract: after each turn the world is that of all that has been read, and at the end `finish` closes it.
use Rattle.std.specs.Prelude.{Ok}
use Rattle.std.proofs.Common.{rules, refl, ap, ◌∙◌, [], take, arith}
use Rattle.feed.proofs.Cut.{fed-none}
use Rattle.book.specs.Memory.{memory_of}
use Rattle.script.specs.Input.{answer_line}
use Rattle.script.specs.Buffers.{opened}
use Rattle.rehearse.proofs.Runs.{read_more, read_no_more, read_ends, turned_on, turned_ended}
use Rattle.rehearse.proofs.rehearse.Goals as goal

pub loop-init : goal.loop-init
loop-init g c =
    let none_read = fed-none answer_line (opened c.args.cache.now c.args.book.now [] 0) in
    (refl, refl, refl, refl, record { size = c.requires.1; most = search rules }, ([], rw none_read))

pub returns-in-Ok-None : goal.returns-in-Ok-None
returns-in-Ok-None g c =
    let turn = c.turn in
    let loop = c.loop in
    let put = c.finish-put in
    let now = opened turn.new.cache turn.new.book turn.new.line in
    let before = opened loop.cache loop.book loop.line loop.held in
    let t = turned_ended before loop.held turn.new.chunk now turn.result (c.in-Ok-None.is ∙ ap Ok c.in-Ok-None.field-0-is) turn.ensures in
    let read = read_no_more (opened c.args.cache.now c.args.book.now [] 0) before (now loop.held) loop.invariant.5 t in
    read_ends (memory_of c.args.cache.now c.args.book.now) (now loop.held) (memory_of put.new.cache put.new.book) turn.new.out put.new.out put.result c.is_ok.result
    read put.ensures

pub loop-preserved : goal.loop-preserved
loop-preserved g c =
    let turn = c.turn in
    let loop = c.loop in
    let before = opened loop.cache loop.book loop.line loop.held in
    let now = opened turn.new.cache turn.new.book turn.new.line in
    let t = turned_on before loop.held c.in-Ok-Some.next turn.new.chunk now turn.result (c.in-Ok-Some.is ∙ ap Ok c.in-Ok-Some.field-0-is) turn.ensures in
    let read = read_more (opened c.args.cache.now c.args.book.now [] 0) before (now c.in-Ok-Some.next) (take t.0 turn.new.chunk) loop.invariant.5 t.1.0 in
    (search rules, search rules, search rules, search rules, record { size = search rules; most = omega (arith, t.1.1) }, read)
