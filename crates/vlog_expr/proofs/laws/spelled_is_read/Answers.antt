use Rattle.vlog_expr.proofs.Spelled.{expr_read, ref_read}
use Rattle.vlog_expr.proofs.TargetSpelled.{target_read}
use Rattle.vlog_expr.proofs.laws.spelled_is_read.Goals as goal

pub returns : goal.returns
returns c = record { exprs = expr_read (Unit {0}) tt; refs = ref_read (Unit {0}) tt; targets = target_read (Unit {0}) tt }
