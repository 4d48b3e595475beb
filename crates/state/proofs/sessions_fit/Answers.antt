-- After j turns each of the first j sessions is formed and entered, and if none is loose they are distinct.
use mathlib.Core.Bool.{false, and-false}
use mathlib.Core.Path.{◌≡◌, refl, sym, ◌∙◌}
use Rattle.lent.proofs.Choices.{clash, test_failed}
use Rattle.lent.proofs.Splice.{part_win}
use Rattle.lent.proofs.Walks.{every_fails}
use Rattle.machine.specs.Sizes.{session_count}
use Rattle.layout.specs.Layout.{dec_head}
use Rattle.joins.proofs.Gathered.{distinct_gathered}
use Rattle.joins.proofs.Loose.{loosened_distinct}
use Rattle.joins.proofs.Seats.{entered_none, number_sat, sat_more}
use Rattle.state.specs.Forms.{sessions_formed, sessions_fit}
use Rattle.state.proofs.Walked.{walked_none, walked_more, walked_all}
use borrow.Author.Rules.{rules}
use Rattle.state.proofs.sessions_fit.Goals as goal
use Rattle.state.proofs.sessions_fit.Goals.{After-session_formed}
use Rattle.state.proofs.sessions_fit.Invariants.{Formed}

pub loop-j-init : goal.loop-j-init
loop-j-init c = let p = c.requires.1 in walked_none (entered_none _ p.0 p.1)

session-told : (c : After-session_formed) → c.session_formed.result ≡ Formed c.args.s.now c.loop-j.j
unfolding dec_head
session-told c = c.session_formed.ensures ∙ rw ((rw c.unwrap-session.ensures at c.as_array.ensures.cases).same, part_win, c.limit-until.ensures, c.load_u32-next.ensures)

pub returns-then-not-session_formed : goal.returns-then-not-session_formed
unfolding sessions_fit sessions_formed
returns-then-not-session_formed c = (rw (every_fails (Formed c.args.s.now) session_count c.loop-j.j (search rules) (test_failed (session-told (goal.at.returns-then-not-session_formed c).After-session_formed) c.if-not-session_formed.true)), λ o. clash false o refl)

pub returns-then-not-session_sits : goal.returns-then-not-session_sits
unfolding sessions_fit
returns-then-not-session_sits c =
    let m = number_sat (search rules) c.loop-j.invariant.noted c.session_sits.ensures.0 in
    (rw (m.twice (c.if-not-session_sits.true), and-false), λ o. clash false o refl)

pub loop-j-preserved : goal.loop-j-preserved
loop-j-preserved c =
    let w = c.loop-j.invariant in
    let m = number_sat (search rules) w.noted c.session_sits.ensures.0 in
    walked_more w (search rules) (session-told (goal.at.loop-j-preserved c).After-session_formed) c.if-not-session_formed.false (m.entered (c.if-not-session_sits.false)) (λ d. sat_more d m)

pub returns-then-crowd-eq0 : goal.returns-then-crowd-eq0
unfolding sessions_fit sessions_formed
returns-then-crowd-eq0 c = let w = walked_all c.loop-j.invariant (search rules) in let d = w.apart c.if-crowd-eq0.true in
    (rw (w.each, d), λ o. record { gathered = w.noted.gathered; once = distinct_gathered _ _ _ w.noted.gathered ∙ d })

pub returns : goal.returns
unfolding sessions_fit sessions_formed
returns c = let w = walked_all c.loop-j.invariant (search rules) in let d = c.differ.ensures ∙ loosened_distinct w.noted.loosened in
    (rw w.each (d ∙ distinct_gathered _ _ _ w.noted.gathered), λ o. record { gathered = w.noted.gathered; once = sym d ∙ o })
