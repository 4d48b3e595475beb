-- QUAR in the parts in which the code takes it, once its arguments are right and its session is open: a row that it has, the decision table,
-- and the two outcomes of that, with ROOM where a row would be taken and none is free.
use Rattle.std.specs.Prelude.{ℕ, [], ◌∷◌, eqb, if◌then◌else◌}
use Rattle.std.proofs.Math.Option.{none}
use Rattle.machine.specs.Words.{ROOM}
use Rattle.machine.specs.Tables.{put_at}
use Rattle.machine.specs.Decision.{grants}
use Rattle.machine.specs.State.{State, row, nothing, free_row, kind_of, row_of}
use Rattle.machine.specs.Expiry.{with_keys, with_rows, set_lease, leave}
use Rattle.machine.specs.Refusals.{decide, rows_full}
use Rattle.machine.specs.Effects.{Outcome, told}
use Rattle.machine.specs.declared.Answer.{Answer}

abbrev pub granted : State → ℕ → ℕ → ℕ → Outcome
granted s n k kind = told Answer.Granted (with_keys (with_rows s (put_at free_row (row n k kind nothing) s.rows)) (set_lease s.keys k none))

abbrev pub grant : State → ℕ → ℕ → ℕ → Outcome
grant s n k kind = if rows_full s then told (Answer.Refused ROOM) s else granted s n k kind

abbrev pub abort : State → ℕ → Outcome
abort s n = told Answer.Aborted (leave (n ∷ []) s)

unfoldable pub ask : State → ℕ → ℕ → ℕ → Outcome
ask s n k kind = if grants (decide s k kind) then grant s n k kind else abort s n

unfoldable pub hold : State → ℕ → ℕ → ℕ → Outcome
hold s n k kind = if eqb (kind_of (row_of s n k)) kind then told Answer.Held s else ask s n k kind
