use Rattle.std.proofs.Common.{length, ◌-◌, ◌≡◌, ◌≤◌, take}
use Rattle.feed.specs.Answers.{fed}
use Rattle.script.specs.Input.{answer_line}
use Rattle.script.specs.Buffers.{opened, HeldFits}
use Rattle.rehearse.proofs.pour.Given as goal

abbrev pub invariant-loop-from : goal.invariant-loop-from
invariant-loop-from g l =
    (length l.cache ≡ length l.initial.cache) × (length l.book ≡ length l.initial.book) × (length l.out ≡ length l.initial.out) × (l.from ≤ length l.chunk)
    × HeldFits l.line l.held
    × (opened l.cache l.book l.line l.held ≡ (fed answer_line (opened l.initial.cache l.initial.book l.initial.line l.held-2) (take l.from l.chunk)).world)

abbrev pub decreases-loop-from : goal.decreases-loop-from
decreases-loop-from g l = length l.chunk - l.from
