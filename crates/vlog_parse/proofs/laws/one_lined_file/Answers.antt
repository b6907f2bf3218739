use Rattle.vlog_parse.proofs.FileClauses.{one_lined_file}
use Rattle.vlog_parse.proofs.laws.one_lined_file.Goals as goal

pub returns : goal.returns
returns c = one_lined_file
