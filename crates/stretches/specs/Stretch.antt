-- The stretch that SHOW hands back.
use Rattle.std.specs.Prelude.{ℕ, ◌+◌, ◌≡◌, List, length}
use Rattle.std.specs.Borrow.{Bor}
use Rattle.lent.specs.Bytes.{win}
use Rattle.machine.specs.Step.{Shown}
use Rattle.sights.specs.declared.Span.{Span}

-- its place and its length
abbrev pub span_of : Shown → Span
span_of x = record { at = x.at; length = length x.value }

-- r is the part of the lent state s that the definition names: from its place, with its length, and it holds its value
pub record Stretch (s r : Bor (List ℕ)) (x : Shown) : Type 0 where
  pub place : r.ref_ptr ≡ (s.ref_ptr.0, x.at + s.ref_ptr.1)
  pub bytes : r.now ≡ win s.now x.at (length x.value)
  pub value : r.now ≡ x.value
