-- A free place is sixteen zeros.
use native.Mathlib.Omega.{arith}
use Rattle.machine.specs.State.{no_session}
use Rattle.layout.specs.Layout.{enc_session}
use Rattle.layout.proofs.Held.{session_stands}
use Rattle.sessions.proofs.free.Goals as goal

pub returns : goal.returns
unfolding enc_session
returns c = λ σ h. rw c.clear.ensures ((session_stands h c.args.i (omega arith)).store no_session tt)
