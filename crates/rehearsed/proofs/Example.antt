-- The theorem over text is not empty. What the twelve lines of 01's worked example tell is computed from their bytes, and what the machine beside the register makes of it
-- by the definitions: every rule is kept. So from any buffer of 65,536 bytes their column is all 0, demand 3 holds after each of them, and the last is told HIT with
-- the register's value.
use mathlib.Core.Path.{◌≡◌, refl, sym, ap, subst, ◌∙◌}
use mathlib.Core.Bool.{true}
use mathlib.Core.List.{List, [], ◌∷◌, ◌++◌}
use mathlib.Core.Option.{Option, none, some}
use Prim.Native.Nat.{ℕ}
use native.Mathlib.Omega.{arith}
use lib.ListN.{length, take, drop, take-append-drop}
use Rattle.lent.specs.Bytes.{Bytes, zeros, win}
use Rattle.lent.specs.Tables.{same, all_zero}
use Rattle.counts.specs.Count.{read_count}
use Rattle.hex_text.specs.Hex.{digit_value, read_hex}
use Rattle.machine.specs.Words.{HIT}
use Rattle.machine.specs.Sizes.{state_size, value_at}
use Rattle.machine.specs.Decision.{decision}
use Rattle.machine.specs.State.{State, fresh, cached}
use Rattle.machine.specs.Expiry.{leave, finish, expire}
use Rattle.machine.specs.Refusals.{decide, blocked, sight, would_lease, would_grant, refusals, refusal}
use Rattle.machine.specs.Effects.{begins, wait, leased, missed, looked, fills, asks, operate, changed, stages, effect}
use Rattle.machine.specs.Step.{settled, step}
use Rattle.machine.specs.Examples.{Told, says, example_read_life, example_write_life}
use Rattle.machine.specs.World.{Event, command, commanded, written, run, AllKept}
use Rattle.machine.specs.Witness.{heard}
use Rattle.machine.specs.declared.Answer.{Answer}
use Rattle.machine.specs.declared.Command.TheVariants.{Get, Done}
use Rattle.machine.proofs.Tested.{all_kept_of}
use Rattle.layout.specs.Layout.{decode}
use Rattle.layout.specs.WellFormed.{well_formed}
use Rattle.layout.proofs.Formed.{holds_decoded}
use Rattle.layout.proofs.Held.{value_stands}
use Rattle.startup.specs.Start.{Reply}
use Rattle.cache.specs.Run.{ran}
use Rattle.promises.proofs.Witness.{witness_ready}
use Rattle.cache.proofs.Taken.{ran_formed}
use Rattle.promises.proofs.Ran.{formed_kept, decode-ran}
use Rattle.book.specs.Memory.{Memory, memory_of}
use Rattle.book.specs.Book.{book_size}
use Rattle.book.proofs.Laws
use Rattle.rules.specs.Rules.{commands}
use Rattle.lines.specs.Fields.{fields, read_number, numbers}
use Rattle.lines.specs.Lines.{shape_of, command_line, start_line, write_line, timed_line, read_line}
use Rattle.lines.specs.declared.Line.{Line}
use Rattle.rehearsal.specs.Rehearsal.{said_of}
use Rattle.rehearsed.specs.Column.{Promised}
use Rattle.rehearsed.specs.Text.{Text, text_through, text_column, event_of, events_in, world_after, begun_by, run_of, RulesKept, PromisedIn}
use Rattle.rehearsed.specs.Example.{starting, between, hitting, example, second_value, events_between, example_events, run_from}
use Rattle.rehearsed.specs.Witness.{begun_world}
use Rattle.rehearsed.proofs.Column.{new-zeros}
use Rattle.rehearsed.proofs.Text.{said_by, text_told, lines-zeros, rehearsal_begun, rehearsal_promised}

-- What the lines tell: the first, those between, all behind the first, and the last

lines_tell : ((read_line starting).line ≡ Line.Start example_read_life example_write_life)
    × (events_in between ≡ events_between)
    × (events_in (between ++ (hitting ∷ [])) ≡ example_events)
    × (event_of hitting ≡ some (command 15 (Get 0 7) []))
unfolding fields read_number read_count numbers digit_value read_hex shape_of command_line start_line write_line timed_line read_line
lines_tell = (refl, refl, refl, refl)

-- What the machine beside the register makes of it: the answers of the worked example, and no rule broken

abbrev pub example_told : List (Option Told)
example_told =
    some (says (Answer.Lease 1))
    ∷ some (says (Answer.Session 1))
    ∷ some (says Answer.Granted)
    ∷ some (says Answer.Ignored)
    ∷ some (says Answer.Validated)
    ∷ none
    ∷ some (says (Answer.Backoff 0))
    ∷ some (says Answer.Done)
    ∷ some (says (Answer.Lease 2))
    ∷ some (says Answer.Stored)
    ∷ some (record { answer = Answer.Hit (value_at 7) 2; handed = second_value })
    ∷ []

abbrev state_before : State
state_before = (run begun_world events_between).state

machine_tells : (heard begun_world example_events ≡ example_told)
    × AllKept begun_world example_events
    × ((step state_before 15 (Get 0 7) []).answer ≡ Answer.Hit (value_at 7) 2)
    × (cached (step state_before 15 (Get 0 7) []).after 7 ≡ some second_value)
unfolding same all_zero read_count decision fresh leave finish expire decide blocked sight would_lease would_grant refusals refusal begins wait leased missed looked fills asks operate changed stages effect settled step commanded written
machine_tells = (refl, all_kept_of begun_world example_events refl, refl, refl)

pub example-heard : heard begun_world example_events ≡ example_told
example-heard = machine_tells.0

-- The rehearsal, from any buffer of the state's size

module _ (x : List ℕ) (l : length x ≡ state_size) where
  run-of : (ts : List Text) (es : List Event) → events_in ts ≡ es → run_of x (starting ∷ ts) ≡ some (run_from es)
  run-of ts es e = ap (λ (y : Line). begun_by x y (events_in ts) (run_of x ts)) lines_tell.0 ∙ rw (witness_ready x l, e)

  abbrev p₀ : Memory
  p₀ = memory_of x (zeros book_size)

  pub example-zeros : all_zero (text_column p₀ example) ≡ true
  example-zeros =
      lines-zeros x (zeros book_size) new-zeros (Laws.started-new book_size) example
      (subst RulesKept (sym (run-of (between ++ (hitting ∷ [])) example_events lines_tell.2)) machine_tells.1)

  pub example_promised : (i : ℕ) → RulesKept (run_of x (take i example)) × PromisedIn (text_through p₀ (take i example)) (run_of x (take i example))
  example_promised i = rehearsal_promised x (take i example) (drop i example) (rw (take-append-drop i example) example-zeros)

  -- behind the first eleven the last is told HIT, and handed what the register holds

  abbrev before_hit : Memory
  before_hit = text_through p₀ (starting ∷ between)

  run-before : run_of x (starting ∷ between) ≡ some (run_from events_between)
  run-before = run-of between events_between lines_tell.1

  promised_before : Promised before_hit (world_after (run_from events_between))
  promised_before = subst (PromisedIn before_hit) run-before (rehearsal_promised x (starting ∷ between) (hitting ∷ []) example-zeros).1

  abbrev reply : Reply
  reply = ran before_hit.cache 15 (Get 0 7) []

  reply-hit : reply.answer ≡ Answer.Hit (value_at 7) 2
  reply-hit =
      ap (λ (r : Reply). r.answer) (ran_formed before_hit.cache 15 (Get 0 7) [] promised_before.formed)
      ∙ ap (λ (s : State). (step s 15 (Get 0 7) []).answer) promised_before.cache ∙ machine_tells.2

  reply_stands : win reply.bytes (value_at 7) 2 ≡ second_value
  reply_stands =
      let none_read : Bytes [] = λ i. omega arith in
      let f : well_formed reply.bytes ≡ true = formed_kept before_hit.cache 15 (Get 0 7) [] none_read promised_before.formed in
      let after = decode-ran before_hit.cache 15 (Get 0 7) [] none_read promised_before.formed ∙ ap (λ (s : State). (step s 15 (Get 0 7) []).after) promised_before.cache in
      let e : cached (decode reply.bytes) 7 ≡ some second_value = ap (λ (s : State). cached s 7) after ∙ machine_tells.3 in
      value_stands (holds_decoded reply.bytes f) 7 (omega arith) second_value e

  said-hit : said_of before_hit.cache before_hit.book hitting ≡ commands before_hit.cache before_hit.book 15 (Get 0 7) []
  said-hit = text_told before_hit hitting (rehearsal_begun x (starting ∷ between) (run_from events_between) run-before) ∙ ap (said_by before_hit) lines_tell.3

  pub example-hit : let said = said_of before_hit.cache before_hit.book hitting in
      (said.word ≡ HIT) × ((said.value ≡ second_value) × ((world_after (run_from events_between)).register 7 ≡ second_value))
  unfolding commands written commanded
  example-hit = (rw (said-hit, reply-hit), (rw (said-hit, reply-hit) reply_stands, refl))
