use Rattle.std.proofs.Common.{◌≡◌, ◌≤◌, drop}
use Rattle.counts.specs.Count.{read_count, count_max}
use Rattle.counts.proofs.Reading.{read_behind}
use Rattle.counts.proofs.read.Given as goal

abbrev pub invariant-loop-b : goal.invariant-loop-b
invariant-loop-b l = (l.a ≤ count_max) × (read_count l.v ≡ read_behind l.a (drop l.b-index l.v))
