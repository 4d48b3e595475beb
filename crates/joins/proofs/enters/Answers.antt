-- A number that is 0 changes nothing; another comes to the front of its chain, and is new if its chain passed it.
use mathlib.Core.Path.{refl}
use Rattle.std.proofs.lemmas.Option.{IfSome_then}
use Rattle.joins.proofs.Chains.{chained_zero, new_passed, chained_more}
use Rattle.joins.proofs.enters.Goals as goal

pub returns-then-n-eq0 : goal.returns-then-n-eq0
returns-then-n-eq0 c = chained_zero c.requires.1 refl c.if-n-eq0.true

pub returns : goal.returns
returns c =
    let y = c.requires in (
      chained_more y.1 refl c.if-n-eq0.false c.chain-h.ensures.0 refl c.chain-h.ensures.1 y.0,
      IfSome_then _ c.passes-l.ensures (λ l p. new_passed y.1 refl c.if-n-eq0.false c.chain-h.ensures.0 refl p y.0),
    )
