-- The part of the lent state from the place that SHOW's definition names, with its length; the value stands there.
use mathlib.Core.Path.{◌≡◌, ap, ◌∙◌}
use lib.ListN.{length}
use Rattle.lent.proofs.Splice.{part_win}
use Rattle.machine.specs.Step.{show}
use Rattle.sights.specs.declared.Span.{Span}
use Rattle.stretches.proofs.Shown.{shown_stands}
use Rattle.stretches.proofs.stretch.Goals as goal

pub returns : goal.returns
returns c = let part = c.part-span in
    let args = c.args in
    let same = (rw c.unwrap.ensures at c.as_array.ensures.cases).same in
    λ σ h. let x = show σ args.session args.key in
    let e = part.ensures.0 σ (rw same h) in
    let p : part.result.at ≡ x.at = ap Span.at e in
    let q : part.result.length ≡ length x.value = ap Span.length e in
    record { place = rw (← p); bytes = rw (← p, ← q) (part_win _ _ _); value = part_win args.s.now part.result.at part.result.length ∙ rw (p, q) (shown_stands σ args.session args.key h) }
