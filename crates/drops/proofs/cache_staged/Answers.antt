-- Without the mark of a value nothing is cached (`staged_not`); with it, mark, length and bytes are those of a cached value (`staged_copied`).
use mathlib.Core.Path.{sym, ◌∙◌}
use native.Mathlib.Omega.{arith}
use Rattle.drops.proofs.Staged.{staged_not, staged_copied}
use Rattle.drops.proofs.cache_staged.Goals as goal

pub returns-then-mark-ne-VALUED : goal.returns-then-mark-ne-VALUED
returns-then-mark-ne-VALUED c = let drop-value = c.drop_value in
    let if1 = c.if-mark-ne-VALUED in
    let mark = c.mark in
    λ σ h. rw (staged_not _ (λ q. if1.true (mark.ensures σ h ∙ q))) (drop-value.ensures σ h)

pub returns : goal.returns
returns c = let copy-within2 = c.copy_within-2 in
    let copy_within = c.copy_within in
    let if1 = c.if-mark-ne-VALUED in
    let mark = c.mark in
    let args = c.args in
    λ σ h. rw (copy-within2.ensures, copy_within.ensures) (staged_copied h args.k args.i (omega arith) (omega arith) (sym (mark.ensures σ h) ∙ if1.false))
