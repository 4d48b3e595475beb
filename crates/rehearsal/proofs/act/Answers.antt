-- What is read decides: each way of reading is a law of `Turns`, and the value that was read stands at the front of the buffer.
use Prim.Native.Nat.{◌≤◌}
use lib.ListN.{length-take}
use native.Mathlib.Omega.{arith}
use Rattle.machine.specs.Sizes.{value_max}
use Rattle.lines.specs.Fields.{value_room}
use Rattle.rehearsal.proofs.Turns.{not_taken, said-unreadable, said-start, write_size, said_write, command_size, said_command}
use Rattle.rehearsal.proofs.act.Goals as goal
use Rattle.rehearsal.proofs.act.Goals.{In-Command, In-Write}

-- the value of a register write is short, and there is room for that of any line
write-fits : (c : In-Write) → (c.in-Write.length ≤ value_max) × (c.in-Write.length ≤ value_room)
write-fits c = (write_size c.args.line.now _ c.read-read.ensures.line _ _ _ c.in-Write.is).1

pub slice_bounds-write-end : goal.slice_bounds-write-end
slice_bounds-write-end c = omega (arith, (write-fits (goal.at.slice_bounds-write-end c).In-Write).1)

pub slice_bounds-write-end-in-Write : goal.slice_bounds-write-end-in-Write
slice_bounds-write-end-in-Write c = simp length-take (omega (arith, (write-fits (goal.at.slice_bounds-write-end-in-Write c).In-Write).1))

pub write-requires : goal.write-requires
write-requires c = simp length-take (omega (arith, (write-fits (goal.at.write-requires c).In-Write).0))

command-fits : (c : In-Command) → c.in-Command.length ≤ value_room
command-fits c = (command_size c.args.line.now _ c.read-read.ensures.line _ _ _ _ _ _ _ c.in-Command.is).1

pub slice_bounds-command-end : goal.slice_bounds-command-end
slice_bounds-command-end c = omega (arith, command-fits (goal.at.slice_bounds-command-end c).In-Command)

pub slice_bounds-command-end-in-Command : goal.slice_bounds-command-end-in-Command
slice_bounds-command-end-in-Command c = simp length-take (omega (arith, command-fits (goal.at.slice_bounds-command-end-in-Command c).In-Command))

pub returns-in-Unreadable : goal.returns-in-Unreadable
returns-in-Unreadable c =
    let a = c.args in
    not_taken _ _ _ _ c.unreadable.ensures (said-unreadable a.cache.now a.book.now a.line.now _
    c.read-read.ensures.line c.in-Unreadable.is)

pub returns-in-Start : goal.returns-in-Start
returns-in-Start c =
    let a = c.args in
    rw (said-start a.cache.now a.book.now a.line.now _
    c.read-read.ensures.line _ _
    c.in-Start.is) c.start.ensures

pub returns-in-Write : goal.returns-in-Write
returns-in-Write c =
    let a = c.args in
    let read = c.read-read in
    rw (said_write a.cache.now a.book.now a.line.now _ read.ensures.line _ _ _
    c.in-Write.is a.value.now _ read.ensures.value)
    (c.write.ensures _)

pub returns-in-Command : goal.returns-in-Command
returns-in-Command c =
    let a = c.args in
    let read = c.read-read in
    rw (said_command a.cache.now a.book.now a.line.now _ read.ensures.line _ _ _ _ _ _ _
    c.in-Command.is a.value.now _ _ read.ensures.value
    c.command_of.ensures) c.command.ensures
