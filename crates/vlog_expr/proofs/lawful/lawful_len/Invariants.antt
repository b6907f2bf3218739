use Rattle.std.proofs.Common.{◌≡◌, take}
use Rattle.vlog_expr.specs.Marks.{all_marked, AreLawful}
use Rattle.vlog_expr.proofs.lawful.lawful_len.Given as goal

abbrev pub invariant-loop-token : goal.invariant-loop-token
invariant-loop-token l = (l.len ≡ l.token-index) × AreLawful (all_marked (take l.token-index l.tokens))
