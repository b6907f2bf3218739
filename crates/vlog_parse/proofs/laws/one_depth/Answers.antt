use Rattle.vlog_parse.proofs.DepthLemmas.{one_line, not_both}
use Rattle.vlog_parse.proofs.laws.one_depth.Goals as goal

pub returns : goal.returns
returns c = record { line = one_line; apart = not_both }
