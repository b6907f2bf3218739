use Rattle.std.proofs.Common.{take}
use Rattle.vlog_item.specs.vlog_expr.Marks.{all_marked}
use Rattle.vlog_parse.proofs.DepthLemmas.{Counts}
use Rattle.vlog_parse.proofs.depth.deep_line.Given as goal

abbrev pub invariant-loop-token : goal.invariant-loop-token
invariant-loop-token l = Counts l.limits.depth l.limits.run l.limits.elses (all_marked (take l.token-index l.tokens))
