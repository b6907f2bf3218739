use Rattle.vlog_parse.proofs.Longest.{one_item_line}
use Rattle.vlog_parse.proofs.laws.one_item_line.Goals as goal

pub returns : goal.returns
returns c = one_item_line
