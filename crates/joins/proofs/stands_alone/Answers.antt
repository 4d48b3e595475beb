-- A word of the key that is not 0, or both are.
use mathlib.Core.Path.{refl}
use native.Mathlib.Omega.{arith}
use Rattle.joins.proofs.Holders.{taken_held, taken_free}
use Rattle.joins.proofs.stands_alone.Goals as goal

pub returns-then-words-at-ne0 : goal.returns-then-words-at-ne0
returns-then-words-at-ne0 c = taken_held 0 (omega arith) (omega arith) c.if-words-at-ne0.true

pub returns-then-words-at-ne0-2 : goal.returns-then-words-at-ne0-2
returns-then-words-at-ne0-2 c = taken_held 1 (omega arith) (omega arith) c.if-words-at-ne0-2.true

pub returns : goal.returns
returns c = taken_free c.if-words-at-ne0.false c.if-words-at-ne0-2.false refl
