use Rattle.vlog_print.proofs.Again.{printed_read}
use Rattle.vlog_print.proofs.laws.printed_is_read.Goals as goal

pub returns : goal.returns
returns c = printed_read
