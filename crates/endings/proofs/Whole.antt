-- The rows of a session end with their keys and its place is freed: that is the machine's own change, since only one place of a sound
-- state has its number.
use mathlib.Core.Path.{◌≡◌}
use mathlib.Core.Bool.{true}
use mathlib.Core.List.{[], ◌∷◌}
use Prim.Native.Nat.{ℕ}
use lib.ListN.{set}
use Rattle.machine.specs.State.{no_session, State, numbered, session_at}
use Rattle.machine.specs.Expiry.{with_sessions, leave, finish}
use Rattle.machine.specs.Effects.{to_cache}
use Rattle.machine.specs.Sound.{sound}
use Rattle.machine.proofs.SoundFacts.{numbers-distinct}
use Rattle.endings.specs.Ends.{end_rows}
use Rattle.endings.specs.declared.Ending.{Ending}
use Rattle.endings.proofs.Numbers.{one_freed}

module _ (s : State) (ok : sound s ≡ true) (n i : ℕ) (h : numbered n (session_at s i) ≡ true) where
  -- the rows end as e says and the place is freed
  abbrev pub ended : Ending → State
  ended e = with_sessions (end_rows e (n ∷ []) s) (set s.sessions i no_session)

  pub leave-whole : ended Ending.Leaves ≡ leave (n ∷ []) s
  unfolding end_rows leave
  leave-whole = rw (one_freed s.sessions (numbers-distinct s ok) n i h)

  pub finish-whole : ended Ending.Caches ≡ finish (n ∷ []) to_cache s
  unfolding end_rows leave finish
  finish-whole = rw (one_freed s.sessions (numbers-distinct s ok) n i h)
