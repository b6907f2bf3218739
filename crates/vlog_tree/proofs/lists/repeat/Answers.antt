use Rattle.vlog_tree.proofs.Rows.{exprs_hidden}
use Rattle.std.proofs.Common.{ap}
use Rattle.vlog_tree.specs.Plain.{plain_expr}
use Rattle.vlog_tree.specs.Tree.{RepeatPrim}
use Rattle.vlog_tree.proofs.lists.repeat.Goals as goal

pub returns : goal.returns
returns c = ap (RepeatPrim c.args.line (plain_expr c.args.count.value)) (exprs_hidden c.args.parts)
