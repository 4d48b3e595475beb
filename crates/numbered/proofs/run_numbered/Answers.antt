-- A number of the list is its command; any other is refused.
use mathlib.Core.Path.{refl, sym, ◌∙◌}
use Rattle.numbered.proofs.run_numbered.Goals as goal

pub returns-in-Some : goal.returns-in-Some
returns-in-Some c = rw (sym c.command_of.ensures ∙ c.in-Some.is) c.run.ensures

pub returns-in-None : goal.returns-in-None
returns-in-None c = rw (sym c.command_of.ensures ∙ c.in-None.is) (c.refuse_unknown.ensures, refl)
