-- A buffer of another length is none of an array's; of one of the right length the tests say whether it is well formed.
use mathlib.Core.Path.{sym, ap, ◌∙◌}
use Rattle.lent.proofs.Choices.{test_failed, test_passed}
use Rattle.state.specs.Forms.{state_formed}
use Rattle.state.proofs.Whole.{formed_is_well_formed, wrong_length}
use Rattle.state.proofs.opened.Goals as goal

pub returns-in_err-buffer : goal.returns-in_err-buffer
returns-in_err-buffer c = rw c.from_residual.ensures (wrong_length c.args.s.now c.in_err-buffer.ensures.cases)

pub returns-then-not-state_formed : goal.returns-then-not-state_formed
returns-then-not-state_formed c = let w = c.in_ok-buffer.ensures.cases in
    sym (ap state_formed w.same ∙ formed_is_well_formed c.args.s.now w.long (λ i. (c.type_inv.s i).fits)) ∙ test_failed c.state_formed.ensures c.if-not-state_formed.true

pub returns : goal.returns
returns c = let w = c.in_ok-buffer.ensures.cases in
    (sym (ap state_formed w.same ∙ formed_is_well_formed c.args.s.now w.long (λ i. (c.type_inv.s i).fits)) ∙ test_passed c.state_formed.ensures c.if-not-state_formed.false, w.same)
