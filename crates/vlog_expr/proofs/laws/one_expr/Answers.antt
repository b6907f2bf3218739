use Rattle.vlog_expr.proofs.Spelled.{one_expr}
use Rattle.vlog_expr.proofs.laws.one_expr.Goals as goal

pub returns : goal.returns
returns c = one_expr
