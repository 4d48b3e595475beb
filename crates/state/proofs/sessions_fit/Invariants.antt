use mathlib.Core.Bool.{Bool}
use mathlib.Core.List.{List}
use Prim.Native.Nat.{ℕ, ◌+◌, ◌-◌, ◌*◌}
use mathlib.Core.Path.{◌≡◌}
use Rattle.lent.specs.Bytes.{win}
use Rattle.machine.specs.Sizes.{session_count, sessions_from, session_width}
use Rattle.layout.specs.Layout.{dec_head}
use Rattle.joins.specs.Joins.{session_numbers, Entered}
use Rattle.state.specs.Forms.{session_formed, write_limit}
use Rattle.state.proofs.Walked.{Walked}
use Rattle.state.proofs.sessions_fit.Given as goal

-- session j is formed
abbrev pub Formed : List ℕ → ℕ → Bool
Formed s j = session_formed (write_limit (dec_head s)) (dec_head s).next_session (win s (sessions_from + j * session_width) session_width)

abbrev pub invariant-loop-j : goal.invariant-loop-j
invariant-loop-j l = Walked session_count (Formed l.s) (session_numbers l.s) (λ i. Entered (session_numbers l.s) i l.seating.numbers l.seating.seats l.loose) (l.crowd ≡ 0) l.j

abbrev pub decreases-loop-j : goal.decreases-loop-j
decreases-loop-j l = session_count - l.j
