-- The table is the definition's: each row has an entry for all that may be asked, so the default does not matter.
use mathlib.Core.Path.{◌≡◌, sym, ◌∙◌}
use mathlib.Core.List.{List, []}
use Prim.Native.Nat.{ℕ, ◌<◌}
use lib.ListN.{length, get_or, get_or-replicate, get_or-map}
use Rattle.std.proofs.lemmas.List.{get_or_default}
use Rattle.machine.specs.Decision.{held_count, asked_count, decisions, decision}
use Rattle.machine.specs.declared.Verdict.{Verdict}
use Rattle.machine.specs.declared.Verdict.TheVariants.{Grant, Abort}
use Rattle.decisions.proofs.decide.Goals as goal

row_long : (held : ℕ) → held < held_count → length (get_or decisions held []) ≡ asked_count
row_long held h = sym (get_or-map (λ (l : List Verdict). length l) decisions held []) ∙ get_or-replicate held_count held asked_count 0 h

pub returns : goal.returns
unfolding decision
returns c = get_or_default (get_or decisions c.args.held []) c.args.asked Grant Abort (rw (row_long c.args.held c.requires.0) c.requires.1)
