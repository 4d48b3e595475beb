-- Sealed if one of the two is; both open: the larger of the two deadlines.
use mathlib.Core.Path.{◌≡◌, sym, ap}
use native.Mathlib.Omega.{arith}
use mathlib.Core.Option.{some}
use Prim.Native.Nat.{max}
use Rattle.waits.proofs.later.Goals as goal

pub returns-then-x-y : goal.returns-then-x-y
returns-then-x-y c = let b = c.in-Open-b in
    let a = c.in-Open in
    let e : max a.x b.y ≡ b.y = omega arith in rw (a.is, b.is) (ap some (sym e))

pub returns : goal.returns
returns c = let b = c.in-Open-b in
    let a = c.in-Open in
    let e : max a.x b.y ≡ a.x = omega arith in rw (a.is, b.is) (ap some (sym e))
