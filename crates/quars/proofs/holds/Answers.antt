-- Without a row of its own the session holds no kind; else its row's kind is compared.
use mathlib.Core.Path.{sym, ◌∙◌}
use Rattle.quars.proofs.Holding.{holds-none, holds_row}
use Rattle.quars.proofs.holds.Goals as goal

pub returns-in_default : goal.returns-in_default
returns-in_default c = let find = c.find in
    let args = c.args in
    let pre = c.requires in
    λ σ h. sym (holds-none σ h.fits.rows args.n args.k args.kind pre (sym (rw (c.from.ensures, c.from-2.ensures) at find.ensures.0 σ h) ∙ c.in_default.is))

pub kind-requires : goal.kind-requires
kind-requires c = rw c.in-Some.is at c.find.ensures.1

pub returns : goal.returns
returns c = let i = c.in-Some in
    let find = c.find in
    let args = c.args in
    λ σ h. holds_row σ h.fits.rows args.n args.k args.kind i.i c.kind.result (sym (rw (c.from.ensures, c.from-2.ensures) at find.ensures.0 σ h) ∙ i.is) (c.kind.ensures σ h)
