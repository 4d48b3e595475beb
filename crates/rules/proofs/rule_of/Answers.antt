-- The risk counts exactly at the word that is watched.
use mathlib.Core.Path.{sym, ◌∙◌}
use borrow.Author.Tests.{eq-eqb, ne_eqb}
use Rattle.rules.proofs.rule_of.Goals as goal

pub returns-then-word-watched : goal.returns-then-word-watched
returns-then-word-watched c = rw (eq-eqb _ _ (c.if-word-watched.true ∙ c.watched.ensures))

pub returns : goal.returns
returns c = rw (ne_eqb _ _ (λ e. c.if-word-watched.false (e ∙ sym c.watched.ensures)))
