use Rattle.std.proofs.Common.{ℕ}
use Rattle.vlog_parse.proofs.FileFound.{file_spelled}
use Rattle.vlog_parse.proofs.laws.read_is_spelled.Goals as goal

pub returns : goal.returns
returns c = file_spelled ℕ
