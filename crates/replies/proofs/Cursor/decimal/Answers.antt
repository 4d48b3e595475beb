-- `decimal` meets its contract: a buffer of 20 bytes takes any number, so what `counts::write` leaves in the tail is the number's digits at the tail's front.
use mathlib.Core.Path.{refl, ap}
use Prim.Native.Nat.{◌+◌}
use Rattle.replies.proofs.Lines.{put_fits, tail_number, tail_digits, printed_most}
use native.Mathlib.Omega.{arith}
use Rattle.replies.proofs.Cursor.decimal.Goals as goal

pub overflow_add-self : goal.overflow_add-self
overflow_add-self c =
    let write = c.write in
    let args = c.args in
    let e = tail_number args.self.now.out.now write.new.out args.self.now.at args.n write.result c.requires write.ensures.0 write.ensures.1 in
    omega (arith, e, printed_most args.n)

pub returns : goal.returns
returns c =
    let write = c.write in
    let at = c.args.self.now.at in
    put_fits (omega (arith, printed_most c.args.n)) refl (ap (λ k. at + k) (tail_number _ _ _ _ _ c.requires write.ensures.0 write.ensures.1)) (tail_digits _ _ _ _ _ c.requires write.ensures.0 write.ensures.1)
