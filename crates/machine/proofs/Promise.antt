-- Each event keeps the invariant, and so does a run. A command is expiry, an effect and the clock: the effect's frame is over the
-- expired world, and a value on a newly quarantined key was the register's, since before it no writer had a row there.
use Rattle.std.specs.Prelude.{if◌then◌else◌}
use mathlib.Core.Path.{◌≡◌, refl}
use mathlib.Core.Bool.{Bool, true, false, not, ◌&&◌}
use mathlib.Core.Logic.{inl, inr}
use mathlib.Core.List.{List}
use mathlib.Core.Option.{Option, none, some}
use Prim.Native.Nat.{ℕ}
use Rattle.lent.proofs.Choices.{clash}
use Rattle.lent.proofs.Runs.{run_keeps}
use Rattle.machine.specs.State.{Value, State, cached}
use Rattle.machine.specs.Expiry.{with_clock, expire}
use Rattle.machine.specs.Refusals.{refusal}
use Rattle.machine.specs.Effects.{effect}
use Rattle.machine.specs.Step.{settled, step}
use Rattle.machine.specs.World.{Event, command, write, World, quarantined, commanded, next, run, Rules, expired, Kept, AllKept}
use Rattle.machine.specs.declared.Refusal.{Refusal}
use Rattle.machine.specs.declared.Answer.{Answer}
use Rattle.machine.specs.declared.Command.{Command}
use Rattle.machine.proofs.OrderlyKept.{orderly_expire, orderly_clock}
use Rattle.machine.proofs.Shape.{orderly_effect}
use Rattle.machine.proofs.Invariant.{RowOn, Good, Frame, reframed, row_on-quarantined, quarantined_row_on, written_good}
use Rattle.machine.proofs.Frames.{expire_value, expire_row_on, frame_kept, frame_expire, framed}

expired_good : (w : World) → Good w → (now : ℕ) → Good (expired w now)
expired_good w g now = reframed w g Answer.Ticked (expire now w.state) w.began (orderly_expire w.state now g.orderly) (frame_expire w g now)
    (λ k v p q. g.older k v (expire_value now w.state k v p) (expire_row_on now w.state k q))

-- the clock is in no frame
clocked : (w : World) (a : Answer) (t : State) (now : ℕ) → Frame w a t → Frame w a (with_clock t now)
clocked w a t now f = record { keeps = f.keeps; value = f.value; opens = f.opens; grows = f.grows; unwritten = f.unwritten }

-- the value when the quarantine began, by whether it had
began_as : (b : Bool) (r o v : Value) → (b ≡ true → v ≡ o) → (b ≡ false → v ≡ r) → v ≡ (if true && not b then r else o)
began_as true r o v f h = f refl
began_as false r o v f h = h refl

commanded_good : (w : World) → Good w → (now : ℕ) (c : Command) (v : Value) (o : Option Refusal) → refusal (expire now w.state) now c v ≡ o
    → Rules (expired w now) c v (settled w.state now o (effect (expire now w.state) now c v)).answer
    → Good (commanded w (settled w.state now o (effect (expire now w.state) now c v)))
unfolding commanded settled
commanded_good w g now c v (some e) p rule = reframed w g (Answer.Refused e) w.state _ g.orderly (frame_kept w g (Answer.Refused e) refl)
    (λ k u h q. rw (row_on-quarantined w.state.rows k q) (g.older k u h q))
commanded_good w g now c v none p rule = reframed w₁ g₁ a (with_clock t now) _ (orderly_clock t now (orderly_effect (expire now w.state) g₁.orderly now c v p)) frame older
  where
    w₁ : World
    w₁ = expired w now

    g₁ : Good w₁
    g₁ = expired_good w g now

    t : State
    t = (effect (expire now w.state) now c v).after

    a : Answer
    a = (effect (expire now w.state) now c v).answer

    frame : Frame w₁ a (with_clock t now)
    frame = clocked w₁ a t now (framed w₁ g₁ now c v p rule)

    older : (k : ℕ) (u : Value) → cached t k ≡ some u → RowOn t.rows k → u ≡ (if quarantined t k && not (quarantined w.state k) then w.register k else w.began k)
    older k u h q =
        let was : cached (expire now w.state) k ≡ some u = frame.keeps k u h q in
        rw (row_on-quarantined t.rows k q) (began_as (quarantined w.state k) (w.register k) (w.began k) u
        (λ e. g.older k u (expire_value now w.state k u was) (quarantined_row_on w.state.rows k e))
        (λ e. elim (g₁.current k u was) [ inl y ↦ y | inr y ↦ clash (quarantined w.state k) (row_on-quarantined w.state.rows k (expire_row_on now w.state k (record { number = y.number; holds = y.holds }))) e ]))

pub next_good : (w : World) → Good w → (e : Event) → Kept w e → Good (next w e)
unfolding step
next_good w g (command now c v) rule = commanded_good w g now c v (refusal (expire now w.state) now c v) refl rule
next_good w g (write n k v) rule = written_good w g n k v rule.0 rule.1

pub run_good : (w : World) (es : List Event) → Good w → AllKept w es → Good (run w es)
run_good w es g h = run_keeps next run (λ w. refl) (λ w e es. refl) AllKept Good (λ w e es h g. (next_good w g e h.0, h.1)) w es h g
