use Rattle.std.proofs.Common.{ℕ}
use Rattle.vlog_expr.proofs.Natural.{expr_natural, ref_natural}
use Rattle.vlog_expr.proofs.TargetNatural.{target_natural}
use Rattle.vlog_expr.proofs.laws.lines_dont_count.Goals as goal

pub returns : goal.returns
returns c = record { exprs = expr_natural ℕ; refs = ref_natural ℕ; targets = target_natural ℕ }
