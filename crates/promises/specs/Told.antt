-- P1 to P12 on the lent bytes: the commands of an example, run on a buffer by the cache's contract.
use Rattle.std.specs.Prelude.{ℕ, List, [], ◌∷◌}
use Rattle.machine.specs.Step.{step}
use Rattle.machine.specs.Examples.{example_read_life, example_write_life, Line, Told, Example}
use Rattle.layout.specs.Layout.{decode}
use Rattle.startup.specs.Start.{start_of}
use Rattle.cache.specs.Run.{ran}

abbrev pub after_bytes : List ℕ → List Line → List ℕ
after_bytes b [] = b
after_bytes b (x ∷ l) = after_bytes (ran b x.at x.command x.value).bytes l

-- each answer is the buffer's; the value that goes with a HIT is the one that GET hands out on what the buffer says (SHOW gives the same: `hit_shown_bytes`)
abbrev pub answers_bytes : List ℕ → List Line → List Told
answers_bytes b [] = []
answers_bytes b (x ∷ l) =
    record { answer = (ran b x.at x.command x.value).answer; handed = (step (decode b) x.at x.command x.value).handed }
    ∷ answers_bytes (ran b x.at x.command x.value).bytes l

-- what the example's commands are told, from START 1000 5000 on the buffer b
abbrev pub told_bytes : List ℕ → Example → List Told
told_bytes b e = answers_bytes (after_bytes (start_of b example_read_life example_write_life).bytes e.first) e.then
