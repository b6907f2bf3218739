use Rattle.std.proofs.Common.{◌↔◌, drop}
use Rattle.vlog_expr.specs.Marks.{all_marked, AreLawful}
use Rattle.vlog_expr.proofs.lawful.are_lawful.Given as goal

abbrev pub invariant-loop-token : goal.invariant-loop-token
invariant-loop-token l = AreLawful (all_marked (drop l.token-index l.tokens)) ↔ AreLawful (all_marked l.tokens)
