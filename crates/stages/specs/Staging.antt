-- What STAGE and DELTA find before they stage anything: the refusals NO SESSION to AHEAD, REPEATED, or the places at which the session and its
-- row stand and the session's next record.
use Rattle.std.specs.Prelude.{ℕ, ◌<◌, ltb, if◌then◌else◌, Result, Ok, Err}
use Rattle.std.proofs.Math.Option.{Option, none, some}
use Rattle.machine.specs.Sizes.{session_count, row_count}
use Rattle.machine.specs.Tables.{first}
use Rattle.machine.specs.Session.{advanced}
use Rattle.machine.specs.State.{State, session_place, session_of, row_place}
use Rattle.machine.specs.Refusals.{count_of, staging_refusals}
use Rattle.layout.specs.Fields.{session_in}
use Rattle.machine.specs.declared.Refusal.{Refusal}
use Rattle.stages.specs.declared.Staging.{Staging}

abbrev pub or_else : Option Refusal → Staging → Result Staging Refusal
or_else none r = Ok r
or_else (some e) r = Err e

-- a step below the count is repeated; an equal one adds one to it
unfoldable pub staging_of : State → ℕ → ℕ → ℕ → ℕ → Result Staging Refusal
staging_of s n step k kind =
    or_else (first (staging_refusals s n step k kind))
    (if ltb step (count_of s n) then Staging.Repeated else Staging.At (session_place s n) (row_place s n k) (advanced (session_in (session_of s n))))

-- its places lie within their tables
abbrev pub Placed : Result Staging Refusal → Type 0
Placed (Err e) = Unit
Placed (Ok Staging.Repeated) = Unit
Placed (Ok (Staging.At i j x)) = (i < session_count) × (j < row_count)
