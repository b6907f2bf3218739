use Rattle.std.proofs.Common.{ℕ}
use Rattle.vlog_stmt.proofs.StmtNatural.{body_natural}
use Rattle.vlog_stmt.proofs.laws.lines_dont_count.Goals as goal

pub returns : goal.returns
returns c = body_natural ℕ
