-- Demand 3 over the lent bytes: a command on well-formed bytes leaves bytes that are well formed and say the machine's next state, so a run on the
-- bytes is the machine's run on what they say. START writes the fresh state's bytes, and from there the machine's theorem speaks of each moment.
use mathlib.Core.Path.{◌≡◌, refl, ap, ◌∙◌}
use mathlib.Core.Bool.{true}
use mathlib.Core.List.{List, [], ◌∷◌, ◌++◌}
use Prim.Native.Nat.{ℕ}
use Rattle.lent.proofs.Runs.{front_kept, run_keeps}
use Rattle.machine.specs.State.{Value, State}
use Rattle.machine.specs.Step.{step}
use Rattle.machine.specs.World.{Event, command, write, World, commanded, written, next, run, AllKept, Consistent, EventBytes, AllBytes}
use Rattle.machine.specs.declared.Answer.{Answer}
use Rattle.layout.specs.Layout.{decode}
use Rattle.layout.specs.WellFormed.{well_formed}
use Rattle.startup.specs.Start.{Reply, start_of}
use Rattle.startup.proofs.Sound.{ready_formed, ready_demand_3}
use Rattle.cache.specs.Run.{ran}
use Rattle.cache.proofs.Taken.{ran_formed}
use Rattle.promises.specs.Bytes.{ByteWorld, world_of, begun_on, next_bytes, run_bytes, AllKeptBytes}
use Rattle.promises.proofs.Ran.{formed_kept, decode-ran}

-- ---- one event

-- of an outcome, the world keeps the answer and the state
commanded-by : (w : World) (a b : Answer) (s t : State) (x y : Value) → a ≡ b → s ≡ t → commanded w (record { answer = a; handed = x; after = s }) ≡ commanded w (record { answer = b; handed = y; after = t })
unfolding commanded
commanded-by w a b s t x y p q = rw (p, q)

pub next_formed : (w : ByteWorld) (e : Event) → EventBytes e → well_formed w.bytes ≡ true → well_formed (next_bytes w e).bytes ≡ true
next_formed w (command now c v) x f = formed_kept w.bytes now c v x f
next_formed w (write n k v) x f = f

pub next_follows : (w : ByteWorld) (e : Event) → EventBytes e → well_formed w.bytes ≡ true → world_of (next_bytes w e) ≡ next (world_of w) e
unfolding commanded written
next_follows w (command now c v) x f =
    commanded-by (world_of w) (ran w.bytes now c v).answer (step (decode w.bytes) now c v).answer (decode (ran w.bytes now c v).bytes) (step (decode w.bytes) now c v).after [] (step (decode w.bytes) now c v).handed
    (ap (λ (r : Reply). r.answer) (ran_formed w.bytes now c v f)) (decode-ran w.bytes now c v x f)
next_follows w (write n k v) x f = refl

-- ---- every run

-- a run on the bytes is the machine's run on what they say
run_follows : (w : ByteWorld) (es : List Event) → AllBytes es → well_formed w.bytes ≡ true → world_of (run_bytes w es) ≡ run (world_of w) es
run_follows w [] x f = refl
run_follows w (e ∷ es) x f = run_follows (next_bytes w e) es x.1 (next_formed w e x.0 f) ∙ ap (λ (u : World). run u es) (next_follows w e x.0 f)

pub bytes_follow : (w : ByteWorld) (es : List Event) → AllBytes es → well_formed w.bytes ≡ true → decode (run_bytes w es).bytes ≡ (run (world_of w) es).state
bytes_follow w es x f = ap (λ (u : World). u.state) (run_follows w es x f)

-- the rules kept on what the bytes say are the rules kept in the machine's run
kept_follows : (w : ByteWorld) (es : List Event) → AllBytes es → well_formed w.bytes ≡ true → AllKeptBytes w es → AllKept (world_of w) es
kept_follows w [] x f h = tt
kept_follows w (e ∷ es) x f h = (h.0, rw (next_follows w e x.0 f) at (kept_follows (next_bytes w e) es x.1 (next_formed w e x.0 f) h.1))

-- ---- the theorem

pub all_bytes_before : (es fs : List Event) → AllBytes (es ++ fs) → AllBytes es
all_bytes_before = front_kept AllBytes tt (λ e es gs x. (x.1, λ a. (x.0, a)))

module _ (b : List ℕ) (read_life write_life : ℕ) (ready : (start_of b read_life write_life).answer ≡ Answer.Ready) where
  -- at each moment of each run from the bytes that START wrote: after each first part of it
  pub demand_3_bytes : (es fs : List Event) → AllBytes (es ++ fs) → AllKeptBytes (begun_on (start_of b read_life write_life).bytes) (es ++ fs)
      → Consistent (world_of (run_bytes (begun_on (start_of b read_life write_life).bytes) es))
  demand_3_bytes es fs x h =
      let w = begun_on (start_of b read_life write_life).bytes in
      let f = ready_formed b read_life write_life ready in
      rw (run_follows w es (all_bytes_before es fs x) f) (ready_demand_3 b read_life write_life ready es fs (kept_follows w (es ++ fs) x f h))

  -- and the bytes are well formed at each
  pub formed_bytes : (es : List Event) → AllBytes es → well_formed (run_bytes (begun_on (start_of b read_life write_life).bytes) es).bytes ≡ true
  formed_bytes es x = run_keeps next_bytes run_bytes (λ w. refl) (λ w e es. refl) (λ w. AllBytes) (λ (w : ByteWorld). well_formed w.bytes ≡ true) (λ w e es x f. (next_formed w e x.0 f, x.1))
      (begun_on (start_of b read_life write_life).bytes) es x (ready_formed b read_life write_life ready)
