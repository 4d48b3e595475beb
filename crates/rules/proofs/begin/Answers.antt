-- The answer is START's, and READY is noted in the book.
use mathlib.Core.Path.{sym, ap, ◌∙◌}
use Rattle.words.specs.declared.Numbers.{Numbers}
use Rattle.rules.proofs.Told.{begin_refused, begin_ready}
use Rattle.rules.proofs.begin.Goals as goal

pub returns-then-n-ne-READY : goal.returns-then-n-ne-READY
returns-then-n-ne-READY c =
    let as-numbers = c.from-n in
    let start = c.start-answer in
    rw (c.tell.ensures, as-numbers.ensures)
    (begin_refused _ _ _ _ _ _ start.ensures.0 start.ensures.1 (λ q. c.if-n-ne-READY.true (ap (λ (n : Numbers). n.word) as-numbers.ensures ∙ q)))

pub returns : goal.returns
returns c =
    let set-started = c.set_started in
    let if1 = c.if-n-ne-READY in
    let as-numbers = c.from-n in
    let start = c.start-answer in
    rw (c.tell-2.ensures, as-numbers.ensures)
    (begin_ready _ _ _ _ _ _ start.ensures.0 start.ensures.1 (sym (ap (λ (n : Numbers). n.word) as-numbers.ensures) ∙ if1.false) _ set-started.ensures)
