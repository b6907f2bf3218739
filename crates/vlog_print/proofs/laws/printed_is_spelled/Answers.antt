use Rattle.vlog_print.proofs.Printed.{printed_spelled}
use Rattle.vlog_print.proofs.laws.printed_is_spelled.Goals as goal

pub returns : goal.returns
returns c = printed_spelled
