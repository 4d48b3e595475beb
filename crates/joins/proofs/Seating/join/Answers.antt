-- A free row passes; a leased key fails; else the session's place and the key's bits decide. Each return is a law of `Joins`.
use mathlib.Core.Path.{refl, sym, ◌∙◌}
use Rattle.joins.proofs.Joins.{join_free, join_leased, join_came}
use Rattle.joins.proofs.Lookup.{once_alone}
use Rattle.joins.proofs.Seating.join.Goals as goal

pub returns-then-n-eq0 : goal.returns-then-n-eq0
returns-then-n-eq0 c = join_free c.requires.1 (sym c.load_u32-n.ensures ∙ c.if-n-eq0.true)

pub returns-then-load_u32-ne0 : goal.returns-then-load_u32-ne0
returns-then-load_u32-ne0 c = join_leased c.requires.1 c.load_u32-n.ensures c.index-k.ensures.0 c.if-n-eq0.false (λ e. c.if-load_u32-ne0.true (c.load_u32.ensures ∙ e))

pub place-p-requires : goal.place-p-requires
place-p-requires c = once_alone c.args.self.now.numbers c.load_u32-n.result c.requires.1.sessions.once c.if-n-eq0.false

pub returns : goal.returns
returns c = join_came c.requires.1 c.load_u32-n.ensures c.index-k.ensures.0 c.if-n-eq0.false c.place-p.ensures.0
    (sym c.load_u32.ensures ∙ c.if-load_u32-ne0.false) c.index-k.ensures.1 refl c.comes.ensures
