-- The rows from i on are counted in; each turn counts in the row before them.
use borrow.Author.Rules.{rules}
use mathlib.Core.Path.{◌≡◌, sym, ◌∙◌}
use native.Mathlib.Omega.{arith}
use Rattle.machine.specs.Sizes.{row_count}
use Rattle.waits.proofs.Waits.{latest-none, latest-turn}
use Rattle.waits.proofs.latest.Goals as goal

pub loop-i-init : goal.loop-i-init
loop-i-init c = (search rules, λ σ h. latest-none σ c.args.k σ.rows row_count h.fits.rows)

pub loop-i-preserved : goal.loop-i-preserved
loop-i-preserved c = let row-life = c.row_life in
    let loop = c.loop-i in
    let args = c.args in
    (search rules, λ σ h. c.later-life.ensures ∙ rw (row-life.ensures σ h, loop.invariant.1 σ h) (sym (latest-turn σ args.k σ.rows loop.i (omega arith) (omega (arith, h.fits.rows)))))

pub returns : goal.returns
returns c = λ σ h. let e : c.loop-i.i ≡ 0 = omega arith in rw e at (c.loop-i.invariant.1 σ h)
