use Rattle.std.proofs.Common.{ℕ}
use Rattle.vlog_parse.proofs.FileNatural.{file_natural}
use Rattle.vlog_parse.proofs.laws.lines_dont_count.Goals as goal

pub returns : goal.returns
returns c = file_natural ℕ
