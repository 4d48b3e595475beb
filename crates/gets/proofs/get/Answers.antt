-- Each test that refuses, in its order; then a row of the session's own decides.
use Rattle.machine.specs.Sizes.{row_count}
use mathlib.Core.Path.{sym, ap, ◌∙◌}
use native.Mathlib.Omega.{arith}
use Prim.Native.Nat.{◌<◌}
use Rattle.gets.specs.Got.{asked}
use Rattle.gets.proofs.Tried.{got_key, got_unknown, got_held, got_others}
use Rattle.outcome.proofs.Told.{gives}
use Rattle.gets.proofs.get.Goals as goal

pub returns-then-key : goal.returns-then-key
returns-then-key c = λ σ h e. let a = c.args in gives (got_key σ a.time a.session a.key c.if-key.true) h

pub returns-then-is_unknown : goal.returns-then-is_unknown
returns-then-is_unknown c = let is-unknown = c.is_unknown in
    let if1 = c.if-key in
    let args = c.args in
    λ σ h e. gives (got_unknown σ args.time args.session args.key if1.false (sym (is-unknown.ensures σ h) ∙ c.if-is_unknown.true)) h

pub row_sight-requires : goal.row_sight-requires
row_sight-requires c = let row = c.in-Some in
    let find = c.find-row in
    let l : row.i < row_count = rw row.is at find.ensures.1 in omega arith

pub returns-in-Some : goal.returns-in-Some
returns-in-Some c = λ σ h e. got_held σ _ _ _ c.if-key.false (sym (c.is_unknown.ensures σ h) ∙ c.if-is_unknown.false) h
    (sym (c.find-row.ensures.0 σ h) ∙ c.in-Some.is) (c.asked.ensures ∙ ap asked (c.row_sight.ensures.0 σ h))

pub returns-in-None : goal.returns-in-None
returns-in-None c = λ σ h e. rw (got_others σ _ _ _ c.if-key.false (sym (c.is_unknown.ensures σ h) ∙ c.if-is_unknown.false) h
    (sym (c.find-row.ensures.0 σ h) ∙ c.in-None.is)) (c.others.ensures σ h e)
