-- `store_u64` meets its contract: the bytes that std gives (`bytes64_written` of `Numbers`), at their place (`part_splice` of `Splice`).
use Rattle.std.proofs.Common.{◌≡◌, ◌∙◌, ap, refl}
use native.Mathlib.Omega.{arith}
use Rattle.lent.specs.Bytes.{bytes64}
use Rattle.lent.proofs.Numbers.{bytes64_written}
use Rattle.lent.proofs.Splice.{part_splice}
use Rattle.lent.proofs.store_u64.Goals as goal

pub returns : goal.returns
returns c =
    let e : c.to_le_bytes.result ≡ bytes64 c.args.v = c.to_le_bytes.ensures ∙ bytes64_written _ ∙ ap bytes64 (omega arith) in
    rw (c.copy_from_slice.ensures.after, e) (part_splice _ _ _ _ refl)
