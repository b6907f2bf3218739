use Rattle.vlog_parse.proofs.FileClauses.{lined_files}
use Rattle.vlog_parse.proofs.laws.lined_files_are_files.Goals as goal

pub returns : goal.returns
returns c = lined_files
