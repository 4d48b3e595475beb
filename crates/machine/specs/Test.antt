-- The clients' four rules as a test that computes: the number of the rule that an event breaks, 0 for none.
use Rattle.std.specs.Prelude.{Bool, false, not, ◌&&◌, List, [], ◌∷◌, ℕ, eqb, if◌then◌else◌}
use Rattle.lent.specs.Tables.{same}
use Rattle.machine.specs.Tables.{any}
use Rattle.machine.specs.Words.{word_of, STORED, DONE, UNDONE}
use Rattle.machine.specs.State.{Value, nothing, staged, DROP, Row, no_row, row, free_row, row_of}
use Rattle.machine.specs.Refusals.{sealed_in}
use Rattle.machine.specs.Step.{step}
use Rattle.machine.specs.World.{Event, command, write, World, next, expired}
use Rattle.machine.specs.declared.Answer.{Answer}
use Rattle.machine.specs.declared.Command.{Command}
use Rattle.machine.specs.declared.Command.TheVariants.{Begin, Get, Fill, Quar, Stage, Delta, Validate, Done, Undo, Evict, Tick}

-- a row of session n in which a value is staged that is not the register's
abbrev pub differs : (ℕ → Value) → ℕ → Row → Bool
differs register n no_row = false
differs register n (row m k d nothing) = false
differs register n (row m k d (staged u)) = eqb m n && not (same u (register k))
differs register n (row m k d DROP) = false

-- rules 1, 3 and 4, of a command answered a, in the world after its expiry
abbrev pub broken_by : World → Command → Value → Answer → ℕ
broken_by w Begin v a = 0
broken_by w (Get n k) v a = 0
broken_by w (Fill t k) v a = if eqb (word_of a) STORED && not (any (same v) (w.since t k)) then 1 else 0
broken_by w (Quar n k d) v a = 0
broken_by w (Stage n i k) v a = 0
broken_by w (Delta n i k o) v a = 0
broken_by w (Validate n m) v a = 0
broken_by w (Done n) v a = if eqb (word_of a) DONE && any (differs w.register n) w.state.rows then 4 else 0
broken_by w (Undo n) v a = if eqb (word_of a) UNDONE && w.wrote n then 3 else 0
broken_by w (Evict k) v a = 0
broken_by w Tick v a = 0

-- rule 2, of a write
abbrev pub broken : World → Event → ℕ
broken w (command now c v) = broken_by (expired w now) c v (step w.state now c v).answer
broken w (write n k v) = if sealed_in w.state n && not (free_row (row_of w.state n k)) then 0 else 2

-- each event of a run
abbrev pub verdicts : World → List Event → List ℕ
verdicts w [] = []
verdicts w (e ∷ es) = broken w e ∷ verdicts (next w e) es
