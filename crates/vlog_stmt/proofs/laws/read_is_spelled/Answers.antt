use Rattle.std.proofs.Common.{ℕ}
use Rattle.vlog_stmt.proofs.StmtFound.{body_spelled}
use Rattle.vlog_stmt.proofs.laws.read_is_spelled.Goals as goal

pub returns : goal.returns
returns c = body_spelled ℕ
