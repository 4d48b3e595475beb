-- The write is tested and marked, and then the register's note is written.
use Rattle.writes.proofs.Written.{write_says}
use Rattle.writes.proofs.write.Goals as goal

pub returns : goal.returns
returns c = write_says _ _ _ _ _ _ _ _ c.note_write-rule.ensures.0 c.note_write-rule.ensures.1 c.write.ensures
