-- `hexed` meets its contract: what `hex_text::write` puts at the front of the tail stands at the tail's place.
use mathlib.Core.Path.{refl, ap}
use Prim.Native.Nat.{◌+◌}
use Rattle.replies.proofs.Lines.{put_fits, tail_splice}
use Rattle.replies.proofs.Cursor.hexed.Goals as goal

pub returns : goal.returns
returns c =
    let at = c.args.self.now.at in
    put_fits c.requires refl (ap (λ k. at + k) c.write.ensures.0) (tail_splice _ _ _ _ c.requires c.write.ensures.1)
