use Rattle.std.proofs.Common.{◌≡◌, ◌≤◌, drop}
use Rattle.vlog_item.specs.vlog_expr.Marks.{all_marked}
use Rattle.vlog_parse.specs.Depth.{overruns}
use Rattle.vlog_parse.proofs.depth.overruns.Given as goal

abbrev pub invariant-loop-token : goal.invariant-loop-token
invariant-loop-token l = (l.depth ≤ l.token-index) × (l.outside ≤ 2048)
    × (overruns l.depth l.outside (all_marked (drop l.token-index l.tokens)) ≡ overruns 0 0 (all_marked l.tokens))
