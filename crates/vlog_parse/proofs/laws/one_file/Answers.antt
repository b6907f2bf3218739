use Rattle.vlog_parse.proofs.FileClauses.{one_file}
use Rattle.vlog_parse.proofs.laws.one_file.Goals as goal

pub returns : goal.returns
returns c = one_file
