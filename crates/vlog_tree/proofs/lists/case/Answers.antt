use Rattle.vlog_tree.proofs.Rows.{arms_hidden}
use Rattle.std.proofs.Common.{ap}
use Rattle.vlog_tree.specs.Plain.{plain_expr}
use Rattle.vlog_tree.specs.Tree.{CaseStmt}
use Rattle.vlog_tree.proofs.lists.case.Goals as goal

pub returns : goal.returns
returns c = ap (CaseStmt (plain_expr c.args.expression)) (arms_hidden c.args.arms)
