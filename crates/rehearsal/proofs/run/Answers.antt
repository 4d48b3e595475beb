-- What the command would break is read first; the answer is told with it.
use Rattle.rules.proofs.Told.{command_says}
use Rattle.rehearsal.proofs.run.Goals as goal

pub returns : goal.returns
returns c =
    let run = c.run-answer in
    let risk = c.risk-risk in
    let args = c.args in
    command_says args.cache.now args.book.now args.time args.command args.value.now _ _ _ risk.result _ risk.ensures run.ensures
    c.conclude.ensures
