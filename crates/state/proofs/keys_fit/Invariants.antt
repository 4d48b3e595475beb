use mathlib.Core.Bool.{Bool, false}
use mathlib.Core.List.{List}
use Prim.Native.Nat.{ℕ, ◌+◌, ◌-◌, ◌*◌}
use mathlib.Core.Path.{◌≡◌}
use Rattle.lent.specs.Bytes.{win}
use Rattle.machine.specs.Sizes.{key_count, keys_from, key_width}
use Rattle.layout.specs.Layout.{dec_head}
use Rattle.joins.specs.Joins.{tokens, Marked}
use Rattle.state.specs.Forms.{key_formed, read_limit}
use Rattle.state.proofs.Walked.{Walked}
use Rattle.state.proofs.keys_fit.Given as goal

-- key k is formed
abbrev pub Formed : List ℕ → ℕ → Bool
Formed s k = key_formed (read_limit (dec_head s)) (dec_head s).next_token (win s (keys_from + k * key_width) key_width)

abbrev pub invariant-loop-k : goal.invariant-loop-k
invariant-loop-k l = Walked key_count (Formed l.s) (tokens l.s) (λ j. Marked (tokens l.s) j l.marks) (l.met ≡ false) l.k

abbrev pub decreases-loop-k : goal.decreases-loop-k
decreases-loop-k l = key_count - l.k
