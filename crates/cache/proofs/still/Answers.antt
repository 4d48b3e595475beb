-- The clock is tested first; then the command decides, and an accepted one moves the clock.
use mathlib.Core.Path.{sym, ◌∙◌}
use Rattle.cache.proofs.Taken.{acted-before_clock, acted_past_time, refused_still, accepted_still}
use Rattle.cache.proofs.still.Goals as goal

pub returns-then-time-clock : goal.returns-then-time-clock
returns-then-time-clock c = λ σ h ok. acted-before_clock σ _ _ _ (rw (← c.clock.ensures σ h) c.if-time-clock.true) h

pub returns-then-time-gt-TIME_MAX : goal.returns-then-time-gt-TIME_MAX
returns-then-time-gt-TIME_MAX c = λ σ h ok. acted_past_time σ _ _ _ c.if-time-gt-TIME_MAX.true h

pub returns-then-is_refused : goal.returns-then-is_refused
returns-then-is_refused c =
    let act = c.act-r in
    let if2 = c.if-time-gt-TIME_MAX in
    let if1 = c.if-time-clock in
    let clock = c.clock in
    λ σ h ok. refused_still σ _ _ _ (rw (← clock.ensures σ h) if1.false) if2.false (sym c.is_refused.ensures ∙ c.if-is_refused.true) (act.ensures σ h ok)

pub returns : goal.returns
returns c =
    let if3 = c.if-is_refused in
    let is-refused = c.is_refused in
    let act = c.act-r in
    let if2 = c.if-time-gt-TIME_MAX in
    let if1 = c.if-time-clock in
    let clock = c.clock in
    let accepted = sym is-refused.ensures ∙ if3.false in
    λ σ h ok. let g = act.ensures σ h ok in
    accepted_still σ _ _ _ (rw (← clock.ensures σ h) if1.false) if2.false accepted g (c.store_clock.ensures _ g.holds)
