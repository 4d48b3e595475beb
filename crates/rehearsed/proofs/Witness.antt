-- The theorems are not empty. The machine's run that keeps the rules prints 0 on every line; a run that breaks each rule prints its number; and one that
-- breaks rule 2 is told to break rule 1 in the two-value form alone. The machine's verdicts are computed, and the column is equal to them.
use mathlib.Core.Path.{◌≡◌, refl, ◌∙◌, ap}
use mathlib.Core.Bool.{Bool, true, ◌&&◌}
use mathlib.Core.List.{List, [], ◌∷◌, ◌++◌}
use Prim.Native.Nat.{ℕ}
use lib.Dec.{leb, ltb}
use lib.ListN.{length, take, drop, take-append-drop, length-replicate}
use borrow.Author.Tests.{leb-true, ltb-true}
use Rattle.lent.specs.Bytes.{zeros}
use Rattle.lent.specs.Tables.{same, all_zero}
use Rattle.lent.proofs.Choices.{and_yes}
use Rattle.counts.specs.Count.{read_count}
use Rattle.machine.specs.Sizes.{key_count, value_max, state_size}
use Rattle.machine.specs.Decision.{decision}
use Rattle.machine.specs.State.{fresh}
use Rattle.machine.specs.Expiry.{leave, finish, expire}
use Rattle.machine.specs.Refusals.{decide, blocked, sight, would_lease, would_grant, refusals, refusal}
use Rattle.machine.specs.Effects.{begins, wait, leased, missed, looked, fills, asks, operate, changed, stages, effect}
use Rattle.machine.specs.Step.{settled, step}
use Rattle.machine.specs.World.{Event, command, write, commanded, written, run, AllBytes}
use Rattle.machine.specs.Test.{verdicts}
use Rattle.machine.specs.Witness.{events}
use Rattle.machine.specs.declared.Answer.{Answer}
use Rattle.startup.specs.Start.{start_of}
use Rattle.book.specs.Book.{book_size}
use Rattle.promises.proofs.Witness.{witness_ready, byte_test, byte_test_lem}
use Rattle.rehearsed.specs.TwoValues.{verdicts_two}
use Rattle.rehearsed.specs.Column.{through, column, AllReadable, Promised}
use Rattle.machine.specs.Examples.{example_read_life, example_write_life}
use Rattle.rehearsed.specs.Witness.{begun_memory, begun_world, breaks, third}
use Rattle.rehearsed.proofs.Column.{new-zeros, column-verdicts, zeros_promised}

-- that a run can be read is tested

abbrev read_test : List Event → Bool
read_test [] = true
read_test (command now c v ∷ es) = byte_test v && read_test es
read_test (write n k v ∷ es) = (ltb k key_count && leb (length v) value_max) && read_test es

tested_readable : (es : List Event) → read_test es ≡ true → AllBytes es × AllReadable es
tested_readable [] e = (tt, tt)
tested_readable (command now c v ∷ es) e =
    let x = and_yes (byte_test v) (read_test es) e in
    let r = tested_readable es x.1 in
    ((byte_test_lem v x.0, r.0), (tt, r.1))
tested_readable (write n k v ∷ es) e =
    let x = and_yes (ltb k key_count && leb (length v) value_max) (read_test es) e in
    let y = and_yes (ltb k key_count) (leb (length v) value_max) x.0 in
    let r = tested_readable es x.1 in
    ((tt, r.0), ((ltb-true k key_count y.0, leb-true (length v) value_max y.1), r.1))

zeros-ready : (start_of (zeros state_size) example_read_life example_write_life).answer ≡ Answer.Ready
zeros-ready = witness_ready (zeros state_size) (length-replicate {A = ℕ} state_size 0)

-- then its column is what is computed
column_is : (es : List Event) (l : List ℕ) → read_test es ≡ true → verdicts_two begun_world es ≡ l → column begun_memory es ≡ l
column_is es l e f =
    let r = tested_readable es e in
    column-verdicts (zeros state_size) (zeros book_size) example_read_life example_write_life zeros-ready new-zeros es r.0 r.1 ∙ f

-- The verdicts of a run that keeps the rules, of one that breaks each, and of one that breaks rule 2 between a grant and its FILL: the register held a third
-- value there, so that rule 1 is kept and its two-value form is not

verdicts_are : (all_zero (verdicts_two begun_world events) ≡ true)
    × (verdicts_two begun_world breaks ≡ (0 ∷ 1 ∷ 2 ∷ 0 ∷ 0 ∷ 0 ∷ 0 ∷ 0 ∷ 4 ∷ 0 ∷ 2 ∷ 3 ∷ []))
    × (verdicts_two begun_world third ≡ (0 ∷ 2 ∷ 2 ∷ 1 ∷ []))
    × (verdicts begun_world third ≡ (0 ∷ 2 ∷ 2 ∷ 0 ∷ []))
unfolding same all_zero read_count decision fresh leave finish expire decide blocked sight would_lease would_grant refusals refusal begins wait leased missed looked fills asks operate changed stages effect settled step commanded written
verdicts_are = (refl, refl, refl, refl)

witness_zeros : all_zero (column begun_memory events) ≡ true
witness_zeros = ap all_zero (column_is events (verdicts_two begun_world events) refl refl) ∙ verdicts_are.0

pub witness_promised : (i : ℕ) → Promised (through begun_memory (take i events)) (run begun_world (take i events))
witness_promised i =
    let whole : (take i events ++ drop i events) ≡ events = take-append-drop i events in
    let r = tested_readable events refl in
    zeros_promised (zeros state_size) (zeros book_size) example_read_life example_write_life zeros-ready new-zeros (take i events) (drop i events) (rw whole r.0) (rw whole r.1) (rw whole witness_zeros)

pub witness_breaks : column begun_memory breaks ≡ (0 ∷ 1 ∷ 2 ∷ 0 ∷ 0 ∷ 0 ∷ 0 ∷ 0 ∷ 4 ∷ 0 ∷ 2 ∷ 3 ∷ [])
witness_breaks = column_is breaks (0 ∷ 1 ∷ 2 ∷ 0 ∷ 0 ∷ 0 ∷ 0 ∷ 0 ∷ 4 ∷ 0 ∷ 2 ∷ 3 ∷ []) refl verdicts_are.1

pub witness_third : (column begun_memory third ≡ (0 ∷ 2 ∷ 2 ∷ 1 ∷ [])) × (verdicts begun_world third ≡ (0 ∷ 2 ∷ 2 ∷ 0 ∷ []))
witness_third = (column_is third (0 ∷ 2 ∷ 2 ∷ 1 ∷ []) refl verdicts_are.2, verdicts_are.3)
