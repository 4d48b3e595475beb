-- Each test is the next of the header's conditions; a next number of 32 bits is at most 2^32 - 1.
use mathlib.Core.Path.{◌≡◌}
use mathlib.Core.Bool.{◌&&◌}
use native.Mathlib.Omega.{arith}
use borrow.Author.Tests.{le-leb, lt-leb}
use Rattle.lent.specs.Bytes.{le32, le64, win}
use Rattle.lent.specs.Tables.{all_zero}
use Rattle.machine.specs.Sizes.{time_max, number_max}
use Rattle.machine.specs.Sound.{next_sound, head_sound}
use Rattle.layout.specs.Layout.{dec_head}
use Rattle.state.specs.Forms.{head_formed}
use Rattle.lent.proofs.Choices.{test_failed, test_passed}
use Rattle.state.proofs.head_formed.Goals as goal
use Rattle.state.proofs.head_formed.Goals.{Else-not-lifetime_at-2}

pub returns-then-load_u64-gt-TIME_MAX : goal.returns-then-load_u64-gt-TIME_MAX
unfolding head_formed head_sound dec_head
returns-then-load_u64-gt-TIME_MAX c = let s = c.args.s.now in rw (lt-leb (le64 s 0) time_max (omega arith))

pub returns-then-not-lifetime_at : goal.returns-then-not-lifetime_at
unfolding head_formed head_sound dec_head
returns-then-not-lifetime_at c = let s = c.args.s.now in rw (le-leb (le64 s 0) time_max (omega arith), test_failed c.lifetime_at.ensures c.if-not-lifetime_at.true)

pub returns-then-not-lifetime_at-2 : goal.returns-then-not-lifetime_at-2
unfolding head_formed head_sound dec_head
returns-then-not-lifetime_at-2 c = let s = c.args.s.now in rw (le-leb (le64 s 0) time_max (omega arith), test_passed c.lifetime_at.ensures c.if-not-lifetime_at.false, test_failed c.lifetime_at-2.ensures c.if-not-lifetime_at-2.true)

-- what is left to test behind the clock and both lifetimes
lives-passed : (c : Else-not-lifetime_at-2) → let s = c.args.s.now in head_formed s ≡ (next_sound (le32 s 16) && next_sound (le32 s 20)) && all_zero (win s 24 40)
unfolding head_formed head_sound dec_head
lives-passed c = let s = c.args.s.now in rw (le-leb (le64 s 0) time_max (omega arith), test_passed c.lifetime_at.ensures c.if-not-lifetime_at.false, test_passed c.lifetime_at-2.ensures c.if-not-lifetime_at-2.false)

pub returns-then-load_u32-lt1 : goal.returns-then-load_u32-lt1
returns-then-load_u32-lt1 c = let s = c.args.s.now in rw (lives-passed (goal.at.returns-then-load_u32-lt1 c).Else-not-lifetime_at-2, lt-leb 1 (le32 s 16) (omega arith))

pub returns-then-load_u32-lt1-2 : goal.returns-then-load_u32-lt1-2
returns-then-load_u32-lt1-2 c = let s = c.args.s.now in rw (lives-passed (goal.at.returns-then-load_u32-lt1-2 c).Else-not-lifetime_at-2, le-leb 1 (le32 s 16) (omega arith), le-leb (le32 s 16) number_max (omega arith), lt-leb 1 (le32 s 20) (omega arith))

pub returns : goal.returns
returns c = let s = c.args.s.now in rw (lives-passed (goal.at.returns c).Else-not-lifetime_at-2, le-leb 1 (le32 s 16) (omega arith), le-leb (le32 s 16) number_max (omega arith), le-leb 1 (le32 s 20) (omega arith), le-leb (le32 s 20) number_max (omega arith)) c.is_zero.ensures
