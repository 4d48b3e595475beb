-- A book of another size, or no room, and nothing is done; else the two counts are printed.
use Rattle.lent.proofs.Choices.{test_failed, test_passed}
use Rattle.rehearsal.proofs.Turns.{lent_right_by, no_book, no_room, lent_sizes, end_idle, end_printed}
use Rattle.rehearsal.proofs.end.Goals as goal

pub returns-in_default : goal.returns-in_default
returns-in_default c = end_idle _ _ (no_book _ _ c.in_default.ensures.cases)

pub returns-then-not-has_room : goal.returns-then-not-has_room
returns-then-not-has_room c = end_idle _ _ (no_room _ _ (test_failed c.has_room.ensures c.if-not-has_room.true))

pub end-requires : goal.end-requires
end-requires c = (lent_sizes c.args.book.now c.args.out.now (lent_right_by _ _ c.in-Some.ensures.cases.long (test_passed c.has_room.ensures c.if-not-has_room.false))).1

pub returns : goal.returns
returns c =
    let same = c.in-Some.ensures.cases.same in
    let right = lent_right_by _ _ c.in-Some.ensures.cases.long (test_passed c.has_room.ensures c.if-not-has_room.false) in
    end_printed _ _ right _ _ _ _ (rw same at c.lines-lines.ensures) (rw same at c.broken-broken.ensures) c.end.ensures
