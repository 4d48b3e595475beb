-- Where the value stands with which a GET would be answered HIT.
use Rattle.std.specs.Prelude.{◌+◌, ◌≤◌, length, Option as Found, Some, None}
use Rattle.std.proofs.Math.Option.{Option, none, some}
use Rattle.machine.specs.Sizes.{state_size}
use Rattle.machine.specs.Refusals.{Sight as Seen}
use Rattle.sights.specs.declared.Span.{Span}

-- place and length of what the machine sees
abbrev pub placed : Option Seen → Found Span
placed none = None
placed (some x) = Some (record { at = x.at; length = length x.value })

-- a value that is seen lies within the lent state
abbrev pub Inside : Found Span → Type 0
Inside None = Unit
Inside (Some x) = x.at + x.length ≤ state_size
