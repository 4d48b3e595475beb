-- The three fields are those of the record that the place holds.
use mathlib.Core.Path.{sym, ◌∙◌}
use Prim.Native.Nat.{◌+◌, ◌*◌}
use native.Mathlib.Omega.{arith}
use Rattle.machine.specs.Sizes.{sessions_from, session_width}
use Rattle.layout.proofs.Held.{session_is}
use Rattle.sessions.proofs.Slots.{session_loaded}
use Rattle.sessions.proofs.load.Goals as goal

pub returns : goal.returns
returns c = let load-life = c.load_life-life in
    let load-u32 = c.load_u32-number in
    let args = c.args in
    λ σ h. rw (load-u32.ensures, load-life.ensures, c.load_u16-count.ensures.0) (sym (session_loaded args.s.now (sessions_from + args.i * session_width)) ∙ session_is h args.i (omega arith))
