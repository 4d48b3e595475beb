-- What callers cite of the lines: each fits in its room, a printed number reads back, and the definitions print the output of 01's worked example.
use Rattle.std.specs.Prelude.{Some}
use mathlib.Core.Path.{◌≡◌, refl}
use mathlib.Core.List.{List, [], ◌++◌}
use Prim.Native.Nat.{ℕ, ◌≤◌}
use native.Mathlib.Omega.{arith}
use lib.ListN.{length, length-append}
use Rattle.machine.specs.Sizes.{value_max}
use Rattle.machine.specs.Words.{word_of, detail_of, HIT}
use Rattle.machine.specs.declared.Answer.{Answer}
use Rattle.hex_text.specs.Hex.{hex_of}
use Rattle.counts.specs.Count.{count_max, read_count}
use Rattle.counts.proofs.Laws.{read_decimal}
use Rattle.replies.specs.Text.{ascii}
use Rattle.replies.specs.Replies.{line_room, WRITTEN, words, name_of, printed, detailed, replied, ended}
use Rattle.replies.proofs.Names.{name_most}
use Rattle.replies.proofs.Lines.{printed_most, detail_most}

-- ---- no line is longer than its room

pub replied_most : (line word detail : ℕ) (value : List ℕ) (rule : ℕ) → length value ≤ value_max → length (replied line word detail value rule) ≤ line_room
unfolding replied
replied_most line word detail value rule h =
    simp length-append (omega (arith, printed_most line, name_most word, detail_most word detail value h, printed_most rule))

pub ended_most : (lines broken : ℕ) → length (ended lines broken) ≤ line_room
unfolding ended
ended_most lines broken = simp length-append (omega (arith, printed_most lines, printed_most broken))

-- ---- a printed number reads back as that number

pub read_printed : (n : ℕ) → n ≤ count_max → read_count (printed n) ≡ Some n
unfolding printed
read_printed n h = read_decimal n h

-- ---- 01, "The rehearsal": the output of the worked example

-- a line of which no value is handed out and no rule broken
abbrev answered : ℕ → Answer → List ℕ
answered line a = replied line (word_of a) (detail_of a) [] 0

pub worked_example :
    answered 1 Answer.Ready
    ++ answered 2 (Answer.Lease 1)
    ++ answered 3 (Answer.Session 1)
    ++ answered 4 Answer.Granted
    ++ answered 5 Answer.Ignored
    ++ answered 6 Answer.Validated
    ++ replied 7 WRITTEN 0 [] 0
    ++ answered 8 (Answer.Backoff 0)
    ++ answered 9 Answer.Done
    ++ answered 10 (Answer.Lease 2)
    ++ answered 11 Answer.Stored
    ++ replied 12 HIT 2 (ascii "b2") 0
    ++ ended 12 0
    ≡ ascii "1 READY - 0\n2 LEASE 1 0\n3 SESSION 1 0\n4 GRANTED - 0\n5 IGNORED - 0\n6 VALIDATED - 0\n7 WRITTEN - 0\n8 BACKOFF 0 0\n9 DONE - 0\n10 LEASE 2 0\n11 STORED - 0\n12 HIT 6232 0\nend 12 0\n"
unfolding replied ended printed name_of words detailed hex_of
worked_example = refl
