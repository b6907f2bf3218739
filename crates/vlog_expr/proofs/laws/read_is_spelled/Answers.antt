use Rattle.std.proofs.Common.{ℕ}
use Rattle.vlog_expr.proofs.Found.{expr_spelled, ref_spelled}
use Rattle.vlog_expr.proofs.TargetFound.{target_spelled}
use Rattle.vlog_expr.proofs.laws.read_is_spelled.Goals as goal

pub returns : goal.returns
returns c = record { exprs = expr_spelled ℕ; refs = ref_spelled ℕ; targets = target_spelled ℕ }
