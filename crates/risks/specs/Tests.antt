-- What a command would break if it were answered with the word at which its rule counts, as the code takes it.
use Rattle.std.specs.Prelude.{ℕ, ◌||◌, List, if◌then◌else◌}
use Rattle.lent.specs.Tables.{same}
use Rattle.machine.specs.State.{Value}
use Rattle.machine.specs.declared.Command.{Command}
use Rattle.machine.specs.declared.Command.TheVariants.{Begin, Get, Fill, Quar, Stage, Delta, Validate, Done, Undo, Evict, Tick}
use Rattle.book.specs.Book.{registered, granted}
use Rattle.risks.specs.Risks.{wrote_for, stale_for}

-- Rule 1, broken by a value that is neither what the register holds nor what it held at the grant
abbrev pub fill_risk : List ℕ → ℕ → Value → ℕ
fill_risk b k v = if same v (registered b k) || same v (granted b k) then 0 else 1

-- the number of the rule, 0 for none
abbrev pub risk_of : List ℕ → List ℕ → Command → Value → ℕ
risk_of x b Begin v = 0
risk_of x b (Get n k) v = 0
risk_of x b (Fill t k) v = fill_risk b k v
risk_of x b (Quar n k d) v = 0
risk_of x b (Stage n i k) v = 0
risk_of x b (Delta n i k o) v = 0
risk_of x b (Validate n m) v = 0
risk_of x b (Done n) v = if stale_for x b n then 4 else 0
risk_of x b (Undo n) v = if wrote_for x b n then 3 else 0
risk_of x b (Evict k) v = 0
risk_of x b Tick v = 0
