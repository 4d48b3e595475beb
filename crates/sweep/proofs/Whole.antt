-- The passes of the sweep in a row are expiry: the sessions that are due are those whose numbers are noted, since the numbers of a sound state
-- differ, and the rows of those end with their keys.
use mathlib.Core.Path.{◌≡◌, sym, ◌∙◌}
use mathlib.Core.Bool.{true}
use mathlib.Core.List.{[], map}
use Prim.Native.Nat.{ℕ}
use Rattle.machine.specs.Session.{is_due}
use Rattle.machine.specs.State.{State}
use Rattle.machine.specs.Expiry.{with_keys, with_sessions, those, lapsed_lease, leave, finish, expire}
use Rattle.machine.specs.Sound.{sound}
use Rattle.machine.proofs.SoundFacts.{numbers-distinct}
use Rattle.endings.specs.Ends.{end_rows}
use Rattle.endings.specs.declared.Ending.{Ending}
use Rattle.sweep.specs.Lapsing.{free_due}
use Rattle.sweep.proofs.Due.{due_freed}
use Rattle.sweep.proofs.Lapsing.{rows_of-none}

module _ (s : State) (ok : sound s ≡ true) (now : ℕ) where
  -- the leases and then the sessions
  abbrev pub swept : State
  swept = with_sessions (with_keys s (map (lapsed_lease now) s.keys)) (map (free_due now) s.sessions)

  pub expire-whole : end_rows Ending.Lapses (those (is_due now) s.sessions) swept ≡ expire now s
  unfolding end_rows leave finish expire
  expire-whole = rw (due_freed s.sessions (numbers-distinct s ok) now)

  pub expire-none : those (is_due now) s.sessions ≡ [] → swept ≡ expire now s
  expire-none e = sym (rows_of-none Ending.Lapses swept) ∙ rw (← e) expire-whole
