use Rattle.vlog_parse.proofs.FileSpelled.{file_read}
use Rattle.vlog_parse.proofs.laws.spelled_is_read.Goals as goal

pub returns : goal.returns
returns c = file_read (Unit {0}) tt
