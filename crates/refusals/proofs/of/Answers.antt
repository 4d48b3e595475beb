-- Each arm is the command of that name; what the command does not look at computes away.
use mathlib.Core.Path.{refl}
use Rattle.machine.specs.Expiry.{expire}
use Rattle.machine.specs.Refusals.{refusals}
use Rattle.refusals.proofs.of.Goals as goal

pub returns-in-Begin : goal.returns-in-Begin
unfolding refusals
returns-in-Begin c = rw c.in-Begin.is c.begin.ensures

pub returns-in-Get : goal.returns-in-Get
unfolding refusals
returns-in-Get c = rw c.in-Get.is c.get.ensures

pub returns-in-Quar : goal.returns-in-Quar
unfolding refusals
returns-in-Quar c = rw c.in-Quar.is c.quar.ensures

pub returns-in-Validate : goal.returns-in-Validate
unfolding refusals
returns-in-Validate c = rw c.in-Validate.is c.validate.ensures

pub returns-in-Done : goal.returns-in-Done
unfolding refusals
returns-in-Done c = rw c.in-Done.is c.done.ensures

pub returns-in-Undo : goal.returns-in-Undo
unfolding refusals
returns-in-Undo c = rw c.in-Undo.is c.undo.ensures

pub returns-in-Evict : goal.returns-in-Evict
unfolding refusals
returns-in-Evict c = λ σ h ok. rw c.in-Evict.is (c.evict.ensures (expire c.args.time σ))

pub returns-in-Tick : goal.returns-in-Tick
unfolding refusals
returns-in-Tick c = λ σ h ok. rw c.in-Tick.is refl
