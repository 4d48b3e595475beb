use Rattle.std.proofs.Common.{length, ◌≡◌, []}
use Rattle.script.specs.Buffers.{opened, HeldFits}
use Rattle.rehearse.proofs.Runs.{ReadSoFar}
use Rattle.rehearse.proofs.rehearse.Given as goal

abbrev pub invariant-loop : goal.invariant-loop
invariant-loop g l =
    (length l.cache ≡ length l.initial.cache) × (length l.book ≡ length l.initial.book) × (length l.chunk ≡ length l.initial.chunk) × (length l.out ≡ length l.initial.out)
    × HeldFits l.line l.held
    × ReadSoFar (opened l.initial.cache l.initial.book [] 0) (opened l.cache l.book l.line l.held)
