use Rattle.vlog_stmt.proofs.StmtSpelled.{body_read}
use Rattle.vlog_stmt.proofs.laws.spelled_is_read.Goals as goal

pub returns : goal.returns
returns c = body_read (Unit {0}) tt
