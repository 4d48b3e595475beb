-- A book of another size, or no room, and nothing is done; else what is said of the line is printed.
use Rattle.lent.proofs.Choices.{test_failed, test_passed}
use Rattle.rehearsal.proofs.Turns.{lent_right_by, no_book, no_room, lent_sizes, line_idle, line_printed, said-within}
use borrow.Author.Rules.{rules}
use Rattle.rehearsal.proofs.line.Goals as goal

pub returns-in_default : goal.returns-in_default
returns-in_default c = line_idle _ _ _ _ (no_book _ _ c.in_default.ensures.cases)

pub returns-then-not-has_room : goal.returns-then-not-has_room
returns-then-not-has_room c = let same = c.in-Some.ensures.cases.same in
    rw same (line_idle _ _ _ _ (no_room _ _ (test_failed c.has_room.ensures c.if-not-has_room.true)))

pub say-requires : goal.say-requires
say-requires c =
    let same = c.in-Some.ensures.cases.same in
    let right = lent_right_by _ _ c.in-Some.ensures.cases.long (test_passed c.has_room.ensures c.if-not-has_room.false) in
    let l = lent_sizes c.args.book.now c.args.out.now right in
    (search (rules, l), said-within _ _ _ _ _ _ (rw same at c.act-said.ensures) (search rules))

pub returns : goal.returns
returns c =
    let same = c.in-Some.ensures.cases.same in
    let right = lent_right_by _ _ c.in-Some.ensures.cases.long (test_passed c.has_room.ensures c.if-not-has_room.false) in
    line_printed _ _ _ _ right _ _ _ _ _ _ (rw same at c.act-said.ensures) c.say.ensures
