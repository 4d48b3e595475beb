use Prim.Native.Nat.{◌-◌}
use mathlib.Core.Path.{◌≡◌}
use lib.ListN.{length}
use Rattle.lent.specs.Bytes.{win}
use Rattle.feed.specs.Held.{buffer, pushed_all}
use Rattle.script.specs.Buffers.{opened, HeldFits, Reaches}
use Rattle.script.proofs.stretch.Given as goal

abbrev pub invariant-loop-i : goal.invariant-loop-i
invariant-loop-i l =
    (length l.cache ≡ length l.initial.cache) × ((length l.book ≡ length l.initial.book)
    × ((HeldFits l.line l.at.held × (buffer l.line l.at.held ≡ pushed_all (buffer l.initial.line l.held) (win l.chunk l.from (l.i - l.from))))
    × Reaches (opened l.initial.cache l.initial.book l.initial.line l.held) l.chunk l.from l.i (opened l.cache l.book l.line l.at.held) l.initial.out l.out l.at.put))
