-- SHOW on any lent bytes: STATE unless they are well formed, with nothing handed back.
use Rattle.std.specs.Prelude.{ℕ, List, [], if◌then◌else◌}
use Rattle.machine.specs.Words.{STATE}
use Rattle.machine.specs.Step.{Shown, show}
use Rattle.machine.specs.declared.Answer.{Answer}
use Rattle.layout.specs.Layout.{decode}
use Rattle.layout.specs.WellFormed.{well_formed}

unfoldable pub show_of : List ℕ → ℕ → ℕ → Shown
show_of b n k = if well_formed b then show (decode b) n k else record { answer = Answer.Refused STATE; at = 0; value = [] }
