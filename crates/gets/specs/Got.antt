-- GET by parts: what it answers to a holder of a row on the key, and to anyone else.
use Rattle.std.specs.Prelude.{ℕ, leb, length, if◌then◌else◌, Option as Found, Some, None}
use Rattle.std.proofs.Math.Option.{Option, none, some}
use Rattle.machine.specs.Words.{NUMBERS}
use Rattle.machine.specs.Sizes.{number_max}
use Rattle.machine.specs.State.{State, cached}
use Rattle.machine.specs.Refusals.{Sight as Seen, blocked, cached_sight}
use Rattle.machine.specs.Effects.{Outcome, told, wait, leased}
use Rattle.machine.specs.declared.Answer.{Answer}
use Rattle.sights.specs.declared.Span.{Span}

-- a holder: HIT, or ASK
abbrev pub asked : Found Span → Answer
asked (Some x) = Answer.Hit x.at x.length
asked None = Answer.Ask

-- the key is absent: blocked, BACKOFF w; free, LEASE t, if there is a token to give
unfoldable pub absent : State → ℕ → ℕ → Outcome
absent s now k =
    if blocked s k then told (Answer.Backoff (wait s k now)) s
    else if leb number_max s.head.next_token then told (Answer.Refused NUMBERS) s
    else leased s now k

-- anyone else: the cached value, HIT
abbrev pub looked : State → ℕ → ℕ → Option Seen → Outcome
looked s now k (some x) = record { answer = Answer.Hit x.at (length x.value); handed = x.value; after = s }
looked s now k none = absent s now k

unfoldable pub others : State → ℕ → ℕ → Outcome
others s now k = looked s now k (cached_sight k (cached s k))
